use Rattle.std.proofs.Common.{◌∷◌, Some, false, sym, subst, arith, IsPermutation}
use Rattle.std.proofs.lemmas.List.Elements.{All-pop}
use Rattle.std.proofs.lemmas.List.Sorted.{IsPermutation-to_front}
use Rattle.pass_sched.specs.Jobs.{IsDone, were, size_of}
use Rattle.pass_sched.specs.Passes.{IsUnderway}
use Rattle.pass_sched.proofs.Perms.{nil_of}
use Rattle.pass_sched.proofs.JobLists.{were_last, sum_last}
use Rattle.pass_sched.proofs.Underway.{reorder}
use Rattle.pass_sched.proofs.spread.gather_all.Goals as goal

pub loop-job-preserved : goal.loop-job-preserved
loop-job-preserved g c =
    let old = c.loop-job.invariant in
    let items = c.in-Some.ensures.items in
    let was = c.in-Some.job.was.value in
    let rest = were c.pop.new.self.items in
    record {
      done = (All-pop (IsDone g.T.Task) _ _ (Some c.in-Some.job) items old.done).0;
      room = omega (arith, old.room, sum_last size_of _ c.pop.new.self.items c.in-Some.job items, c.gather.ensures.room);
      kept = λ given runs under.
          let so_far = old.kept given runs under in
          let front = subst (λ l. IsPermutation l (was ∷ rest)) (sym (were_last _ c.pop.new.self.items c.in-Some.job items)) (IsPermutation-to_front rest was) in
          let next = c.gather.ensures.kept given so_far.0 rest (reorder g.T.Task false given so_far.0 _ _ _ _ _ front so_far.1) in
          (next.0 ∷ so_far.0, next.1);
    }

pub returns : goal.returns
returns g c given runs under =
    let so_far = c.loop-job.invariant.kept given runs under in
    let empty = nil_of c.loop-job.jobs.items (omega (arith, c.in_default.ensures.cases, c.loop-job.jobs.ok.0)) in
    (so_far.0, subst (λ l. IsUnderway g.T.Task false given so_far.0 (were l) c.loop-job.through.items c.loop-job.outcome.failed c.loop-job.outcome.moved) empty so_far.1)
