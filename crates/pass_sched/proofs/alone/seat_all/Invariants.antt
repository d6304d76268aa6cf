use Rattle.std.proofs.Common.{◌≡◌, ◌≤◌, IsPermutation, length}
use Rattle.std.specs.BinaryHeap.{heap_len, heap_capacity}
use Rattle.pass_sched.specs.Heaps.{tasks_of}
use Rattle.pass_sched.proofs.alone.seat_all.Given as goal

abbrev pub invariant-loop-task : goal.invariant-loop-task
invariant-loop-task g l = record {
  seated : IsPermutation l.yielded (tasks_of l.pending);
  counted : heap_len l.pending ≡ length l.yielded;
  room : heap_capacity l.initial.pending ≤ heap_capacity l.pending;
}
