use Rattle.std.proofs.Common.{arith}
use Rattle.tests_procs.proofs.answers.judged.Goals as goal

pub new-requires : goal.new-requires
new-requires g c = let q = c.requires.objects in c.nothing-start.ensures c.args.objects q.0 (let few = q.1 in omega (arith, few))
