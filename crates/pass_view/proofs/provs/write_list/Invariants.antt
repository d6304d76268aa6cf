use Rattle.std.proofs.Common.{ℕ, List, [], ◌∷◌, drop}
use Rattle.json.specs.Token.{string}
use Rattle.pass_view.specs.Provs.{tag_text}
use Rattle.pass_view.proofs.Adding.{Comes}
use Rattle.pass_view.proofs.provs.write_list.Given as goal

abbrev pub invariant-loop-attr : goal.invariant-loop-attr
invariant-loop-attr l = Comes (λ (t : List ℕ × List ℕ). string (tag_text t) ∷ []) l.initial.out l.tags l.out (drop l.attr-index l.tags)
