-- Living tasks on their way through a pass of several workers.
use Rattle.std.specs.Prelude.{◌≡◌, ℕ, ◌+◌, ◌≤◌, ◌<◌, List, map, vec_len, vec_capacity}
use Rattle.pass_sched.specs.declared.task.Task.{Ghosts}
use Rattle.pass_sched.specs.declared.job.Job.{Job}
use Rattle.pass_sched.specs.Passes.{Run, IsRun}

abbrev pub run_of : {X : Type 0} → Job X → Run X
run_of job = record { before = job.was.value; after = job.task; kids = job.born.items }

-- the tasks of jobs
abbrev pub tasks_in : {X : Type 0} → List (Job X) → List X
tasks_in jobs = map (λ job. job.task) jobs

-- the tasks as they were before their turns
abbrev pub were : {X : Type 0} → List (Job X) → List X
were jobs = map (λ job. job.was.value) jobs

-- how many tasks come of a job
abbrev pub size_of : {X : Type 0} → Job X → ℕ
size_of job = 1 + vec_len job.born

module _ {X : Type 0} (t : Ghosts X) where
  -- a living task before its turns, with room for its children
  pub record IsFit (job : Job X) : Type 0 where
    pub living : 0 < t.left job.task
    pub was : job.was.value ≡ job.task
    pub had_is : job.had ≡ t.left job.task
    pub empty : vec_len job.born ≡ 0
    pub room : t.left job.task ≤ vec_capacity job.born

  -- a living task that has taken its turns
  pub record IsDone (job : Job X) : Type 0 where
    pub living : 0 < t.left job.was.value
    pub had_is : job.had ≡ t.left job.was.value
    pub run : IsRun t (run_of job)
    pub room : size_of job ≤ t.left job.was.value
