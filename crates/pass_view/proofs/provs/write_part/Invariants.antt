use Rattle.std.proofs.Common.{drop}
use Rattle.pass_view.specs.Provs.{members_in, tokens_of}
use Rattle.pass_view.specs.declared.picture.Shown.{Shown}
use Rattle.pass_view.proofs.Adding.{Comes}
use Rattle.pass_view.proofs.provs.write_part.Given as goal

abbrev pub invariant-loop-shown : goal.invariant-loop-shown
invariant-loop-shown l = Comes (λ (s : Shown). tokens_of (members_in l.part s)) l.initial.out l.nodes l.out (drop l.shown-index l.nodes)
