use Rattle.std.proofs.Common.{◌≡◌, ◌≤◌, ◌+◌, ◌++◌, IsPermutation}
use Rattle.std.specs.BinaryHeap.{IsHeap, heap_capacity, heap_items, heap_len}
use Rattle.std.specs.Prelude.{vec_capacity, vec_len}
use Rattle.pass_order.specs.Queues.{rank_order}
use Rattle.pass_order.proofs.queue.Queue.begin_again.Given as goal

abbrev pub invariant-loop-standing : goal.invariant-loop-standing
invariant-loop-standing g l = record {
  walkers : (l.self.walkers.items ≡ l.initial.self.walkers.items) × (vec_capacity l.initial.self.walkers ≤ vec_capacity l.self.walkers);
  due : IsPermutation (heap_items l.initial.self.due ++ l.initial.self.late.items) (heap_items l.self.due ++ l.self.late.items);
  heap : IsHeap rank_order (heap_items l.initial.self.due) → IsHeap rank_order (heap_items l.self.due);
  last : l.self.last ≡ l.initial.self.last;
  count : heap_len l.self.due + vec_len l.self.late ≡ heap_len l.initial.self.due + vec_len l.initial.self.late;
  room : (heap_capacity l.initial.self.due ≤ heap_capacity l.self.due) × (vec_capacity l.initial.self.late ≤ vec_capacity l.self.late);
}

abbrev pub decreases-loop-standing : goal.decreases-loop-standing
decreases-loop-standing g l = vec_len l.self.late
