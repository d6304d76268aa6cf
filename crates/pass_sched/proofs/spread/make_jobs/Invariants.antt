use Rattle.std.proofs.Common.{◌+◌, ◌≤◌, ◌++◌, List, false, All, IsTrue, sum_by, IsPermutation, vec_len, vec_capacity}
use Rattle.pass_sched.specs.Jobs.{IsFit, tasks_in}
use Rattle.pass_sched.specs.Passes.{Run, IsUnderway, room_of}
use Rattle.pass_sched.proofs.spread.make_jobs.Given as goal

abbrev pub invariant-loop-task : goal.invariant-loop-task
invariant-loop-task g l = record {
  slots : vec_len l.jobs + vec_len l.tasks ≤ vec_capacity l.jobs;
  room : vec_len l.through + (sum_by (room_of g.T.Task) l.tasks.items + sum_by (room_of g.T.Task) (tasks_in l.jobs.items)) ≤ vec_capacity l.through;
  tasks : IsPermutation l.initial.tasks.items (l.tasks.items ++ (l.through.items ++ tasks_in l.jobs.items));
  fit : IsTrue l.all → All (IsFit g.T.Task) l.jobs.items;
  begun : (runs : List (Run _)) × IsUnderway g.T.Task false l.initial.tasks.items runs (l.tasks.items ++ tasks_in l.jobs.items) l.through.items false false;
}

abbrev pub decreases-loop-task : goal.decreases-loop-task
decreases-loop-task g l = vec_len l.tasks
