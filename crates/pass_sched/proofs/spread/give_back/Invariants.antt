use Rattle.std.proofs.Common.{◌+◌, ◌≤◌, ◌++◌, IsPermutation, vec_len, vec_capacity}
use Rattle.pass_sched.specs.Jobs.{tasks_in}
use Rattle.pass_sched.proofs.spread.give_back.Given as goal

abbrev pub invariant-loop-job : goal.invariant-loop-job
invariant-loop-job g l = record {
  room : vec_len l.into + vec_len l.jobs ≤ vec_capacity l.into;
  tasks : IsPermutation (l.initial.into.items ++ tasks_in l.initial.jobs.items) (l.into.items ++ tasks_in l.jobs.items);
}

abbrev pub decreases-loop-job : goal.decreases-loop-job
decreases-loop-job g l = vec_len l.jobs
