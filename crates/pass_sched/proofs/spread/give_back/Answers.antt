use Rattle.std.proofs.Common.{◌++◌, subst, arith, IsPermutation}
use Rattle.std.proofs.lemmas.List.Sorted.{IsPermutation-refl}
use Rattle.pass_sched.specs.Jobs.{tasks_in}
use Rattle.pass_sched.proofs.Perms.{moves_over, through_last}
use Rattle.pass_sched.proofs.JobLists.{tasks_last}
use Rattle.pass_sched.proofs.spread.give_back.Goals as goal

pub loop-job-preserved : goal.loop-job-preserved
loop-job-preserved g c =
    let old = c.loop-job.invariant in
    let items = c.in-Some.ensures.items in
    record {
      room = omega (arith, c.in-Some.ensures.cases);
      tasks = moves_over _ c.loop-job.into.items (tasks_in c.pop.new.self.items) c.push_reserved.new.self.items c.in-Some.job.task
          (subst (λ l. IsPermutation (c.args.into.now.items ++ tasks_in c.args.jobs.items) (c.loop-job.into.items ++ l)) (tasks_last c.loop-job.jobs.items c.pop.new.self.items c.in-Some.job items) old.tasks)
          (through_last _ _ _ c.in-Some.job.task (IsPermutation-refl c.loop-job.into.items) c.push_reserved.ensures.items);
    }
