use Rattle.std.proofs.Common.{◌≡◌, ◌++◌, List, ap, ◌∙◌, sym, subst, length, arith}
use Rattle.pass_sched.specs.Passes.{IsRun}
use Rattle.pass_sched.proofs.Perms.{nil_of}
use Rattle.pass_sched.proofs.Plays.{run_of_living}
use Rattle.pass_sched.proofs.Underway.{kids_few}
use Rattle.pass_sched.proofs.job.play_job.Goals as goal

pub returns-clause-done : goal.returns-clause-done
returns-clause-done g c =
    let fit = c.requires in
    let run = c.play.ensures.run in
    let job = c.args.job.now in
    let left = g.T.Task.left in
    let kids = run.1 ∙ ap (λ l. l ++ run.0) (nil_of job.born.items (omega (arith, fit.empty, job.born.ok.0))) in
    let same : left job.was.value ≡ left job.task = ap left fit.was in
    record {
      living = omega (arith, same, fit.living);
      had_is = fit.had_is ∙ sym same;
      run = subst (λ (y : _ × List _). IsRun g.T.Task (record { before = y.0; after = c.play.new.task; kids = y.1 })) (λ i. (sym fit.was i, sym kids i))
          (run_of_living g.T.Task job.task run.0 c.play.new.task fit.living run.2);
      room = omega (arith, same, kids_few g.T.Task job.task run.0 c.play.new.task fit.living run.2, ap length kids, c.play.new.born.ok.0);
    }
