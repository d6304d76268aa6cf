use Rattle.std.proofs.Common.{ℕ, List, ◌++◌, ap, ◌∙◌, subst}
use Rattle.pass_status.specs.Writing.{IsPartOfText}
use Rattle.pass_ask.specs.Answers.{text_with}
use Rattle.pass_ask.proofs.Written.{stands_as}
use Rattle.pass_cli.specs.Answers.{outcome_of_run}
use Rattle.pass_cli.proofs.Judging.{replayed_as}
use Rattle.pass_cli.proofs.main_call.run_words.Goals as goal

pub returns-clause-run : goal.returns-clause-run
returns-clause-run g c = λ known.
    let r = c.judge-status.result in
    let w = c.write_answer.ensures in
    let (bytes, told, run) = c.judge-status.ensures.judged (λ is. known (w.starved is)) in record {
      bytes = bytes;
      told = told;
      judged = r.status;
      report = r.report.items;
      by = run;
      stands = stands_as c.write_answer.result r.status known w.stands;
      whole = λ whole tells. w.whole whole known tells ∙ ap (λ (t : List ℕ). g.K.Sink.taken c.args.sink.now ++ text_with r.status t) c.deref.ensures.value;
      part = λ fault tells. subst (λ (t : List ℕ). IsPartOfText (text_with r.status t) (g.K.Sink.taken c.args.sink.now) (g.K.Sink.taken c.write_answer.new.sink)) c.deref.ensures.value (w.part fault tells);
    }

pub returns-clause-stops : goal.returns-clause-stops
returns-clause-stops g c = λ t known. c.judge-status.ensures.stops t (λ is. known (c.write_answer.ensures.starved is))

pub returns-clause-replayed : goal.returns-clause-replayed
returns-clause-replayed g c = λ is.
    let r = c.judge-status.result in
    let w = c.write_answer.ensures in
    let (bytes, told, replayed) = c.judge-status.ensures.replayed is in
    (bytes, told, replayed_as (g.D.Disk.view c.args.disk) bytes (outcome_of_run r) r.status c.write_answer.result (λ known. stands_as c.write_answer.result r.status known w.stands) replayed)
