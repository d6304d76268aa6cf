use Rattle.std.proofs.Common.{◌≡◌, ℕ, ◌+◌, ◌++◌, List, Bool, false, length, take, drop, sum_by, ap, ◌∙◌, sym, subst, arith}
use Rattle.std.proofs.lemmas.List.{length-map}
use Rattle.std.proofs.lemmas.List.Sorted.{IsPermutation-trans}
use Rattle.std.proofs.Math.Seq.{take-append_seam}
use Rattle.pass_sched.specs.declared.job.Job.{Job}
use Rattle.pass_sched.specs.Jobs.{tasks_in, were, size_of}
use Rattle.pass_sched.specs.Passes.{IsUnderway, room_of}
use Rattle.pass_sched.proofs.JobLists.{sizes}
use Rattle.pass_sched.proofs.Underway.{short, over}
use Rattle.pass_sched.proofs.spread.pass_spread.Goals as goal

-- the jobs are those of the slice
still : {X : Type 0} (n : ℕ) (news olds : List (Job X)) → were news ≡ tasks_in olds → length olds ≡ n → take n (news ++ drop (length news) olds) ≡ news
still n news olds same len =
    let long : length news ≡ n = omega (arith, length-map news (λ (j : Job _). j.was.value), ap length same, length-map olds (λ (j : Job _). j.task), len) in
    ap (λ k. take k (news ++ drop (length news) olds)) (sym long) ∙ take-append_seam news (drop (length news) olds)

pub make_jobs-requires-clause-through : goal.make_jobs-requires-clause-through
make_jobs-requires-clause-through g c = (c.in-Ok.ensures.empty.1, omega (arith, c.in-Some.ensures, ap (sum_by (room_of g.T.Task)) c.as_slice.ensures.value, c.in-Ok.ensures.room.1))

pub give_back-requires : goal.give_back-requires
give_back-requires g c =
    let jobs = c.make_jobs.new.jobs in
    omega (arith, c.make_jobs.ensures.room, short g.T.Task (tasks_in jobs.items), length-map jobs.items (λ job. job.task), jobs.ok.0)

pub returns-then-not-make_jobs-clause-untouched : goal.returns-then-not-make_jobs-clause-untouched
returns-then-not-make_jobs-clause-untouched g c _ =
    IsPermutation-trans _ (c.make_jobs.new.through.items ++ tasks_in c.make_jobs.new.jobs.items) _ c.make_jobs.ensures.tasks (IsPermutation-trans _ c.give_back.new.into.items _ c.give_back.ensures c.refused-then-not-make_jobs.ensures.same)

pub gather_all-requires-clause-room : goal.gather_all-requires-clause-room
gather_all-requires-clause-room g c =
    let jobs = c.make_jobs.new.jobs in
    let was = c.play_jobs.ensures.were ∙ ap tasks_in c.as_mut_slice.ensures.value in
    let now = still jobs.len c.play_jobs.new.jobs jobs.items was (omega (arith, jobs.ok.0)) in
    omega (arith, c.make_jobs.ensures.room, sizes g.T.Task _ c.play_jobs.ensures.done, ap (sum_by (room_of g.T.Task)) was, ap (sum_by size_of) now)

pub returns-clause-pass : goal.returns-clause-pass
returns-clause-pass g c _ =
    let given = c.args.tasks.items in
    let outcome = c.new-outcome.ensures in
    let through = c.make_jobs.new.through.items in
    let begun = c.make_jobs.ensures.begun in
    let jobs = c.make_jobs.new.jobs in
    let was = c.play_jobs.ensures.were ∙ ap tasks_in c.as_mut_slice.ensures.value in
    let now = still jobs.len c.play_jobs.new.jobs jobs.items was (omega (arith, jobs.ok.0)) in
    let start = subst (λ (y : List _ × (Bool × Bool)). IsUnderway g.T.Task false given begun.0 y.0 through y.1.0 y.1.1)
    (λ i. ((sym was ∙ ap were (sym now)) i, ((sym outcome i).failed, (sym outcome i).moved))) begun.1 in
    let all = c.gather_all.ensures given begun.0 start in
    let ends = over g.T.Task false given all.0 _ _ _ _ _ all.1 c.answer.ensures.same c.answer.ensures.end in
    (all.0, ends.0, ends.1)
