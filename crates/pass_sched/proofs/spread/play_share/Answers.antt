use Rattle.std.proofs.Common.{◌≡◌, ℕ, ◌<◌, length, ap, ◌∙◌, sym, subst, arith, All, get_or, List, [], ◌∷◌, suc, refl}
use Rattle.std.proofs.lemmas.List.Elements.{All-nil, All-get_or, All-from_get_or}
use Rattle.pass_sched.specs.declared.job.Job.{Job}
use Rattle.pass_sched.specs.Jobs.{IsFit, IsDone, tasks_in, were}
use Rattle.pass_sched.proofs.spread.play_share.Goals as goal

-- what holds at each place holds of all
all_from : {X : Type 0} (P : X → Type 0) (xs : List X) → ((i : ℕ) (d : X) → i < length xs → P (get_or xs i d)) → All P xs
all_from P [] each = All-nil P
all_from P (x ∷ xs) each = All-from_get_or P (x ∷ xs) x (λ i within. each i x within)

-- lists that agree at each place
were_of : {X : Type 0} (jobs news : List (Job X)) → length news ≡ length jobs → ((i : ℕ) (d : Job X) → i < length jobs → (get_or news i d).was.value ≡ (get_or jobs i d).task) → were news ≡ tasks_in jobs
were_of [] [] len each = refl
were_of [] (n ∷ news) len each = absurd (omega (arith, len))
were_of (j ∷ jobs) [] len each = absurd (omega (arith, len))
were_of (j ∷ jobs) (n ∷ news) len each =
    let front : n.was.value ≡ j.task = each 0 j (omega arith) in
    let rest = were_of jobs news (omega (arith, len)) (λ i d within. each (suc i) d (omega (arith, within))) in
    λ i. front i ∷ rest i

pub for_each_mut-requires-clause-accepts : goal.for_each_mut-requires-clause-accepts
for_each_mut-requires-clause-accepts g c = λ _ _ i p within is. subst (IsFit g.T.Task) (sym is) (All-get_or (IsFit g.T.Task) c.args.jobs.now i p.now within c.requires.fit)

pub returns-clause-done : goal.returns-clause-done
returns-clause-done g c =
    all_from (IsDone g.T.Task) _ (λ i d within. let at = (c.for_each_mut.ensures i d (omega (arith, within))).1 in subst (IsDone g.T.Task) at.left at.call.1)

pub returns-clause-were : goal.returns-clause-were
returns-clause-were g c =
    were_of _ _ (omega arith) (λ i d within.
    let at = (c.for_each_mut.ensures i d within).1 in
    let fit = All-get_or (IsFit g.T.Task) c.args.jobs.now i d within c.requires.fit in
    sym (ap (λ (j : Job _). j.was.value) at.left) ∙ ap (λ s. s.value) at.call.0 ∙ ap (λ (j : Job _). j.was.value) at.argument_is ∙ fit.was)
