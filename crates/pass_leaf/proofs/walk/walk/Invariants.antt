use Rattle.std.proofs.Common.{length}
use Rattle.pass_leaf.proofs.Walks.{IsWalking}
use Rattle.pass_leaf.proofs.walk.walk.Given as goal

abbrev pub invariant-loop-rest : goal.invariant-loop-rest
invariant-loop-rest l = IsWalking l.bytes l.rest l.place l.leaves

abbrev pub decreases-loop-rest : goal.decreases-loop-rest
decreases-loop-rest l = length l.rest
