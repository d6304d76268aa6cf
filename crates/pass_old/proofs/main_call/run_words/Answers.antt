use Rattle.std.proofs.Common.{◌∙◌, ◌++◌, ℕ, List, ap, subst}
use Rattle.pass_status.specs.Writing.{IsPartOfText}
use Rattle.pass_old.specs.Answers.{old_text_with}
use Rattle.pass_old.proofs.Texts.{stands_as}
use Rattle.pass_old.proofs.main_call.run_words.Goals as goal

pub returns-clause-run : goal.returns-clause-run
returns-clause-run g c =
    let r = c.judge_run-judged.result in
    let w = c.write_old.ensures in
    let taken = g.K.Sink.taken in
    let (bytes, told, run) = c.judge_run-judged.ensures.run in (
      bytes,
      told,
      record {
        judged = r.status;
        report = r.report.items;
        by = run;
        written = λ known. record {
          stands = stands_as c.write_old.result r.status known w.stands;
          whole = λ whole tells. w.whole whole known tells ∙ ap (λ (t : List ℕ). taken c.args.sink.now ++ old_text_with r.status t) c.deref.ensures.value;
          part = λ fault tells. subst (λ (t : List ℕ). IsPartOfText (old_text_with r.status t) (taken c.args.sink.now) (taken c.write_old.new.sink)) c.deref.ensures.value (w.part fault tells);
        };
      },
    )

pub returns-clause-stops : goal.returns-clause-stops
returns-clause-stops g c = λ tells known. c.judge_run-judged.ensures.stops tells (λ is. known (c.write_old.ensures.starved is))
