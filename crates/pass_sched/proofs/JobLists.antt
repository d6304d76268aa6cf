-- Lists of jobs.
use Rattle.std.proofs.Common.{◌≡◌, ℕ, ◌+◌, ◌≤◌, List, [], ◌∷◌, ◌++◌, All, sum_by, ap, ◌∙◌, arith}
use Rattle.std.proofs.lemmas.List.{map-append}
use Rattle.std.proofs.lemmas.List.Sums.{sum_by-append, sum_by-cons}
use Rattle.std.proofs.lemmas.List.Elements.{All-head, All-tail}
use Rattle.pass_sched.specs.declared.job.Job.{Job}
use Rattle.pass_sched.specs.declared.task.Task.{Ghosts}
use Rattle.pass_sched.specs.Jobs.{tasks_in, were, size_of, IsDone}
use Rattle.pass_sched.specs.Passes.{room_of}

pub were_last : {X : Type 0} (jobs rest : List (Job X)) (j : Job X) → jobs ≡ rest ++ j ∷ [] → were jobs ≡ were rest ++ j.was.value ∷ []
were_last jobs rest j is = ap were is ∙ map-append (λ (e : Job _). e.was.value) rest (j ∷ [])

pub tasks_last : {X : Type 0} (jobs rest : List (Job X)) (j : Job X) → jobs ≡ rest ++ j ∷ [] → tasks_in jobs ≡ tasks_in rest ++ j.task ∷ []
tasks_last jobs rest j is = ap tasks_in is ∙ map-append (λ (e : Job _). e.task) rest (j ∷ [])

pub sum_last : {X : Type 0} (f : X → ℕ) (all rest : List X) (x : X) → all ≡ rest ++ x ∷ [] → sum_by f all ≡ sum_by f rest + f x
sum_last f all rest x is = omega (arith, ap (sum_by f) is, sum_by-append f rest (x ∷ []))

pub sizes : {X : Type 0} (t : Ghosts X) (jobs : List (Job X)) → All (IsDone t) jobs → sum_by size_of jobs ≤ sum_by (room_of t) (were jobs)
sizes t [] h = omega arith
sizes t (j ∷ js) h =
    omega (arith, sum_by-cons size_of j js, sum_by-cons (room_of t) j.was.value (were js), (All-head (IsDone t) j js h).room, sizes t js (All-tail (IsDone t) j js h))
