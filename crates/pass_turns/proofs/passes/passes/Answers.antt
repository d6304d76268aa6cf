use Rattle.std.proofs.Common.{arith}
use Rattle.pass_turns.proofs.passes.passes.Goals as goal

pub returns-in-AllEnded-clause-tasks : goal.returns-in-AllEnded-clause-tasks
returns-in-AllEnded-clause-tasks g c lines first are = c.pass-after.ensures.tasks lines first (c.loop.invariant.tasks lines first are)

pub returns-in-OneFailed-clause-tasks : goal.returns-in-OneFailed-clause-tasks
returns-in-OneFailed-clause-tasks g c lines first are = c.pass-after.ensures.tasks lines first (c.loop.invariant.tasks lines first are)

pub returns-in-NoMemory-clause-tasks : goal.returns-in-NoMemory-clause-tasks
returns-in-NoMemory-clause-tasks g c lines first are = c.pass-after.ensures.tasks lines first (c.loop.invariant.tasks lines first are)

pub returns-in-Some-go_on-clause-tasks : goal.returns-in-Some-go_on-clause-tasks
returns-in-Some-go_on-clause-tasks g c lines first are = c.go_on.ensures.tasks lines first (c.pass-after.ensures.tasks lines first (c.loop.invariant.tasks lines first are))

pub returns-then-are_still-clause-tasks : goal.returns-then-are_still-clause-tasks
returns-then-are_still-clause-tasks g c lines first are = c.pass-after.ensures.tasks lines first (c.loop.invariant.tasks lines first are)

pub loop-preserved-in-GoOn : goal.loop-preserved-in-GoOn
loop-preserved-in-GoOn g c = record {
  workers = c.requires.workers;
  tasks = λ lines first are. c.go_on.ensures.tasks lines first (c.pass-after.ensures.tasks lines first (c.loop.invariant.tasks lines first are));
  room = omega (arith, c.go_on.ensures.room, c.pass-after.ensures.room, c.loop.invariant.room);
}

pub loop-preserved : goal.loop-preserved
loop-preserved g c = record {
  workers = (omega arith, omega arith);
  tasks = λ lines first are. c.meet_ended-crew.ensures.tasks lines first (c.pass-after.ensures.tasks lines first (c.loop.invariant.tasks lines first are));
  room = omega (arith, c.meet_ended-crew.ensures.room, c.pass-after.ensures.room, c.loop.invariant.room);
}
