use Rattle.std.proofs.Common.{length}
use Rattle.pass_standby.proofs.Walking.{IsWalking}
use Rattle.pass_standby.proofs.opening.walk.Given as goal

abbrev pub invariant-loop-rest : goal.invariant-loop-rest
invariant-loop-rest l = IsWalking l.bytes l.rest l.place l.list.items l.judge

abbrev pub decreases-loop-rest : goal.decreases-loop-rest
decreases-loop-rest l = length l.rest
