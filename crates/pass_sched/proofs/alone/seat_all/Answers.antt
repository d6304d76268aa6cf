use Rattle.std.proofs.Common.{◌∷◌, [], length-append, arith}
use Rattle.std.proofs.lemmas.List.Sorted.{IsPermutation-push_more}
use Rattle.pass_sched.specs.Heaps.{tasks_of}
use Rattle.pass_sched.proofs.alone.seat_all.Goals as goal

pub loop-task-preserved : goal.loop-task-preserved
loop-task-preserved g c = record {
  seated = IsPermutation-push_more c.loop-task.yielded (tasks_of c.loop-task.pending) (tasks_of c.seat.new.pending) c.in-Some.task c.loop-task.invariant.seated c.seat.ensures.tasks;
  counted = omega (arith, length-append c.loop-task.yielded (c.in-Some.task ∷ []));
  room = omega arith;
}
