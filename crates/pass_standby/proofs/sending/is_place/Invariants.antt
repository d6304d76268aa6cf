use Rattle.std.proofs.Common.{length}
use Rattle.pass_standby.proofs.Places.{IsSought}
use Rattle.pass_standby.proofs.sending.is_place.Given as goal

abbrev pub invariant-loop-place : goal.invariant-loop-place
invariant-loop-place l = IsSought l.bytes l.rest l.place l.from

abbrev pub decreases-loop-place : goal.decreases-loop-place
decreases-loop-place l = length l.rest
