use Rattle.std.proofs.Common.{◌≡◌, [], take}
use Rattle.std.specs.Prelude.{fold}
use Rattle.pass_leaf.specs.Places.{laid_at}
use Rattle.pass_leaf.proofs.content.lay_all.Given as goal

abbrev pub invariant-loop-i : goal.invariant-loop-i
invariant-loop-i l = l.content.items ≡ fold (laid_at l.leaves) [] (take l.i l.places)
