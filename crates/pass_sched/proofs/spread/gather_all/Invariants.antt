use Rattle.std.proofs.Common.{◌+◌, ◌≤◌, List, false, All, sum_by, vec_len, vec_capacity}
use Rattle.pass_sched.specs.Jobs.{IsDone, were, size_of}
use Rattle.pass_sched.specs.Passes.{Run, IsUnderway}
use Rattle.pass_sched.proofs.spread.gather_all.Given as goal

abbrev pub invariant-loop-job : goal.invariant-loop-job
invariant-loop-job g l = record {
  done : All (IsDone g.T.Task) l.jobs.items;
  room : vec_len l.through + sum_by size_of l.jobs.items ≤ vec_capacity l.through;
  kept : (given : List _) (runs : List (Run _))
      → IsUnderway g.T.Task false given runs (were l.initial.jobs.items) l.initial.through.items l.initial.outcome.failed l.initial.outcome.moved
      → (all : List (Run _)) × IsUnderway g.T.Task false given all (were l.jobs.items) l.through.items l.outcome.failed l.outcome.moved;
}

abbrev pub decreases-loop-job : goal.decreases-loop-job
decreases-loop-job g l = vec_len l.jobs
