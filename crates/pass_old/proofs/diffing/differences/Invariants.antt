use Rattle.std.proofs.Common.{◌-◌}
use Rattle.pass_old.proofs.Parting.{IsSoFar}
use Rattle.pass_old.proofs.diffing.differences.Given as goal

abbrev pub invariant-loop-place : goal.invariant-loop-place
invariant-loop-place l = IsSoFar l.a l.b l.end l.place l.ranges.items

abbrev pub decreases-loop-place : goal.decreases-loop-place
decreases-loop-place l = l.end - l.place
