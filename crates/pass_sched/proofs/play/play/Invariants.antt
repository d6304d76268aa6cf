use Rattle.std.proofs.Common.{◌≡◌, ◌+◌, ◌≤◌, ◌++◌, List, vec_len, vec_capacity}
use Rattle.pass_sched.specs.Passes.{Moves}
use Rattle.pass_sched.proofs.play.play.Given as goal

abbrev pub invariant-loop : goal.invariant-loop
invariant-loop g l =
    ((kids : List _) × (l.born.items ≡ l.initial.born.items ++ kids) × Moves g.T.Task l.initial.task kids l.task)
    × (vec_len l.born + g.T.Task.left l.task ≤ vec_capacity l.born)
    × (vec_capacity l.initial.born ≤ vec_capacity l.born)

abbrev pub decreases-loop : goal.decreases-loop
decreases-loop g l = g.T.Task.left l.task
