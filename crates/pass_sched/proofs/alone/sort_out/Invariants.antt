use Rattle.std.proofs.Common.{◌≡◌, ◌+◌, ◌≤◌, ◌++◌, vec_len, vec_capacity, not, nat_lt, filter, IsPermutation}
use Rattle.std.specs.BinaryHeap.{heap_len, heap_capacity}
use Rattle.pass_sched.specs.Heaps.{tasks_of}
use Rattle.pass_sched.proofs.alone.sort_out.Given as goal

abbrev pub invariant-loop-task : goal.invariant-loop-task
invariant-loop-task g l =
    record {
      pending : heap_len l.pending + vec_len l.born ≤ heap_capacity l.pending;
      done : vec_len l.done + vec_len l.born ≤ vec_capacity l.done;
      heap_grows : heap_capacity l.initial.pending ≤ heap_capacity l.pending;
      done_same : vec_capacity l.done ≡ vec_capacity l.initial.done;
      born_same : vec_capacity l.born ≡ vec_capacity l.initial.born;
      joining : IsPermutation (tasks_of l.initial.pending ++ filter (λ kid. nat_lt l.above (g.T.Task.order kid)) l.initial.born.items) (tasks_of l.pending ++ filter (λ kid. nat_lt l.above (g.T.Task.order kid)) l.born.items);
      staying : IsPermutation (l.initial.done.items ++ filter (λ kid. not (nat_lt l.above (g.T.Task.order kid))) l.initial.born.items) (l.done.items ++ filter (λ kid. not (nat_lt l.above (g.T.Task.order kid))) l.born.items);
    }

abbrev pub decreases-loop-task : goal.decreases-loop-task
decreases-loop-task g l = vec_len l.born
