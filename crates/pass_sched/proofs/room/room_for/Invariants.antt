use Rattle.std.proofs.Common.{◌≡◌, sum_by, take}
use Rattle.pass_sched.specs.Passes.{room_of}
use Rattle.pass_sched.proofs.room.room_for.Given as goal

abbrev pub invariant-loop-task : goal.invariant-loop-task
invariant-loop-task g l = l.room ≡ sum_by (room_of g.T.Task) (take l.task-index l.tasks)
