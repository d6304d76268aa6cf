use Rattle.std.proofs.Common.{length}
use Rattle.pass_standby.proofs.Feeding.{IsFeeding}
use Rattle.pass_standby.proofs.following.Following.feed.Given as goal

abbrev pub invariant-loop-rest : goal.invariant-loop-rest
invariant-loop-rest g l = IsFeeding g.D.Disk.view l.piece l.rest l.fn.self l.self

abbrev pub decreases-loop-rest : goal.decreases-loop-rest
decreases-loop-rest g l = length l.rest
