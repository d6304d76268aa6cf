use Rattle.std.proofs.Common.{arith}
use Rattle.tests_threads.proofs.judging.judge.Goals as goal

pub new-requires : goal.new-requires
new-requires g c = c.nothing-start.ensures 12 (omega arith) (omega arith)
