-- What a heap of tasks holds.
use Rattle.std.specs.Prelude.{List, map}
use Rattle.std.specs.BinaryHeap.{heap_items}
use Rattle.std.specs.declared.collections.BinaryHeap.{BinaryHeap}
use Rattle.pass_sched.specs.declared.ranked.Ranked.{Ranked}

abbrev pub tasks_of : {X Z : Type 0} → BinaryHeap (Ranked X) Z → List X
tasks_of heap = map (λ r. r.task) (heap_items heap)
