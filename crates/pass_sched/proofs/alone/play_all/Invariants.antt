use Rattle.std.proofs.Common.{◌≡◌, ◌≤◌, ◌+◌, List, sum_by, vec_len, vec_capacity, true}
use Rattle.std.specs.BinaryHeap.{heap_capacity}
use Rattle.pass_sched.specs.Heaps.{tasks_of}
use Rattle.pass_sched.specs.Passes.{Run, IsUnderway, room_of}
use Rattle.pass_sched.proofs.alone.play_all.Given as goal

abbrev pub invariant-loop-task : goal.invariant-loop-task
invariant-loop-task g l = record {
  empty : vec_len l.bench.born ≡ 0;
  born : sum_by (room_of g.T.Task) (tasks_of l.bench.pending) ≤ vec_capacity l.bench.born;
  done : vec_len l.bench.done + sum_by (room_of g.T.Task) (tasks_of l.bench.pending) ≤ vec_capacity l.bench.done;
  pending : sum_by (room_of g.T.Task) (tasks_of l.bench.pending) ≤ heap_capacity l.bench.pending;
  kept : (given : List _) (runs : List (Run _))
      → IsUnderway g.T.Task true given runs (tasks_of l.initial.bench.pending) l.initial.bench.done.items l.initial.outcome.failed l.initial.outcome.moved
      → (all : List (Run _)) × IsUnderway g.T.Task true given all (tasks_of l.bench.pending) l.bench.done.items l.outcome.failed l.outcome.moved;
}

abbrev pub decreases-loop-task : goal.decreases-loop-task
decreases-loop-task g l = sum_by (room_of g.T.Task) (tasks_of l.bench.pending)
