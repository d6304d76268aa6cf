use Prim.Native.Nat.{◌+◌, ◌*◌}
use Rattle.pass_sched.proofs.spread.+shares.Given as goal

abbrev pub decreases-play_jobs : goal.decreases-play_jobs
decreases-play_jobs g l = 4 * l.workers

abbrev pub decreases-play_both : goal.decreases-play_both
decreases-play_both g l = 4 * l.workers + 2

abbrev pub decreases-play_both-there : goal.decreases-play_both-there
decreases-play_both-there g l = 4 * l.workers + 1
