use Rattle.std.proofs.Common.{◌++◌, ◌∙◌, ap, sym}
use Rattle.std.proofs.lemmas.List.{map-append}
use Rattle.std.proofs.lemmas.List.Elements.{All-append}
use Rattle.pass_sched.specs.Jobs.{IsDone, tasks_in}
use Rattle.pass_sched.proofs.spread.+shares.Goals as goal

pub play_jobs-returns-clause-done : goal.play_jobs-returns-clause-done
play_jobs-returns-clause-done g t c = All-append (IsDone g.T.Task) _ _ c.play_both.ensures.share_done c.play_both.ensures.others_done

pub play_jobs-returns-clause-were : goal.play_jobs-returns-clause-were
play_jobs-returns-clause-were g t c =
    let cut = c.split_at_mut-share in
    map-append (λ j. j.was.value) c.play_both.new.share c.play_both.new.others
    ∙ ap (λ (l : _ × _). l.0 ++ l.1) (λ i. (c.play_both.ensures.share_were i, c.play_both.ensures.others_were i))
    ∙ sym (ap tasks_in cut.ensures.value ∙ map-append (λ j. j.task) cut.result.0.now cut.result.1.now)
