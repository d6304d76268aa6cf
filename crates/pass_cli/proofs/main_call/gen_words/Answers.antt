use Rattle.std.proofs.Common.{ℕ, List, ◌++◌, ap, ◌∙◌, subst}
use Rattle.pass_status.specs.Writing.{IsPartOfText}
use Rattle.pass_ask.specs.Answers.{text_with}
use Rattle.pass_ask.proofs.Written.{stands_as}
use Rattle.pass_cli.proofs.main_call.gen_words.Goals as goal

pub returns-clause-drawn : goal.returns-clause-drawn
returns-clause-drawn g c = λ known.
    let r = c.judge_drawn-judged.result in
    let w = c.write_answer.ensures in
    record {
      judged = r.status;
      text = r.report.items;
      by = c.judge_drawn-judged.ensures.judged (λ is. known (w.starved is));
      stands = stands_as c.write_answer.result r.status known w.stands;
      whole = λ whole tells. w.whole whole known tells ∙ ap (λ (t : List ℕ). g.K.Sink.taken c.args.sink.now ++ text_with r.status t) c.deref.ensures.value;
      part = λ fault tells. subst (λ (t : List ℕ). IsPartOfText (text_with r.status t) (g.K.Sink.taken c.args.sink.now) (g.K.Sink.taken c.write_answer.new.sink)) c.deref.ensures.value (w.part fault tells);
    }
