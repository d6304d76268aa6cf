use Rattle.std.proofs.Common.{ℕ, ◌≡◌, List, ◌∙◌, ap}
use Rattle.std.specs.Prelude.{◌≢◌}
use Rattle.pass_status.specs.declared.status.Status.TheVariants as status
use Rattle.pass_ask.specs.Answers.{text_with}
use Rattle.pass_ask.specs.Questions.{IsTold, line_question}
use Rattle.pass_ask.proofs.Turns.{taken_of}
use Rattle.pass_ask.proofs.questions.answer_line.Goals as goal

pub returns-clause-told : goal.returns-clause-told
returns-clause-told g c =
    let j = c.judge_line-judged in
    let asked = line_question c.args.json c.args.line.now in
    taken_of (λ text. (j.result.status ≢ status.NoMemory) × (text ≡ text_with j.result.status c.deref.result.now)) (IsTold c.args.index.now asked) g.K.Sink.tells (g.K.Sink.taken c.args.sink.now)
    (g.K.Sink.taken c.write_told.new.sink) c.write_told.result
    (λ text is. record {
      judged = j.result.status;
      known = is.0;
      answer = j.result.text.items;
      over = j.ensures.over;
      is = is.1 ∙ ap (λ (t : List ℕ). text_with j.result.status t) c.deref.ensures.value;
    })
    c.write_told.ensures.takes
