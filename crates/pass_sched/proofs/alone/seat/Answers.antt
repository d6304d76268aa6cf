use Rattle.std.proofs.Common.{◌∷◌}
use Rattle.std.specs.BinaryHeap.{heap_items}
use Rattle.std.proofs.lemmas.List.Sorted.{IsPermutation-map}
use Rattle.pass_sched.proofs.Results.{ok_then}
use Rattle.pass_sched.proofs.alone.seat.Goals as goal

pub returns-clause-tasks : goal.returns-clause-tasks
returns-clause-tasks g c =
    IsPermutation-map (λ r. r.task) (record { task = c.args.task } ∷ heap_items c.args.pending.now) (heap_items c.push.new.self) (ok_then _ _ (c.push.ensures.succeeds c.requires) c.push.ensures.permutation)
