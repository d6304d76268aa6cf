use Rattle.std.proofs.Common.{ℕ, List, drop}
use Rattle.json.specs.Tree.{json_tokens}
use Rattle.pass_files.specs.Texts.{tag_json}
use Rattle.pass_view.proofs.Adding.{Comes}
use Rattle.pass_files.proofs.output.write_tags.Given as goal

abbrev pub invariant-loop-attr : goal.invariant-loop-attr
invariant-loop-attr l = Comes (λ (t : List ℕ × List ℕ). json_tokens (tag_json t)) l.initial.out l.tags l.out (drop l.attr-index l.tags)
