use Rattle.std.proofs.Common.{◌≡◌, ◌+◌, ◌∷◌, sum_by, true, IsPermutation, arith}
use Rattle.std.specs.BinaryHeap.{heap_items}
use Rattle.std.proofs.lemmas.List.{length-map}
use Rattle.std.proofs.lemmas.List.Sorted.{IsPermutation-map, sum_by-IsPermutation}
use Rattle.std.proofs.lemmas.List.Sums.{sum_by-cons}
use Rattle.pass_sched.specs.Heaps.{tasks_of}
use Rattle.pass_sched.specs.Passes.{room_of}
use Rattle.pass_sched.proofs.Underway.{short, reorder}
use Rattle.pass_sched.proofs.alone.play_all.Goals as goal
use Rattle.pass_sched.proofs.alone.play_all.Goals.{In-Some}

popped : (g : _) (c : In-Some g) → IsPermutation (tasks_of c.loop-task.bench.pending) (c.in-Some.field-0.task ∷ tasks_of c.pop.new.self)
popped g c = IsPermutation-map (λ r. r.task) _ _ c.in-Some.ensures.permutation

total : (g : _) (c : In-Some g) → room_of g.T.Task c.in-Some.field-0.task + sum_by (room_of g.T.Task) (tasks_of c.pop.new.self) ≡ sum_by (room_of g.T.Task) (tasks_of c.loop-task.bench.pending)
total g c = omega (arith, sum_by-IsPermutation (room_of g.T.Task) _ _ (popped g c), sum_by-cons (room_of g.T.Task) c.in-Some.field-0.task (tasks_of c.pop.new.self))

pub take_part-requires-clause-pending : goal.take_part-requires-clause-pending
take_part-requires-clause-pending g c =
    omega (arith, total g (goal.at.take_part-requires-clause-pending g c).In-Some, short g.T.Task (tasks_of c.pop.new.self), length-map (heap_items c.pop.new.self) (λ r. r.task), c.pop.new.self.data.ok.0)

pub loop-task-smaller : goal.loop-task-smaller
loop-task-smaller g c = let all = total g (goal.at.loop-task-smaller g c).In-Some in omega (arith, all, c.take_part.ensures.falls)

pub loop-task-preserved : goal.loop-task-preserved
loop-task-preserved g c =
    let old = c.loop-task.invariant in
    let all = total g (goal.at.loop-task-preserved g c).In-Some in
    record {
      empty = c.take_part.ensures.empty;
      born = omega (arith, all);
      done = omega (arith, all);
      pending = omega (arith, all);
      kept = λ given runs under.
          let so_far = old.kept given runs under in
          let next = c.take_part.ensures.kept given so_far.0 (reorder g.T.Task true given so_far.0 _ _ _ _ _ (popped g (goal.at.loop-task-preserved g c).In-Some) so_far.1) in
          (next.0 ∷ so_far.0, next.1);
    }
