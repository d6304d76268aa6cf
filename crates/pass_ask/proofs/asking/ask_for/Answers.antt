use Rattle.std.proofs.Common.{ℕ, List, sym, ap, ◌∙◌, subst}
use Rattle.std.specs.Prelude.{IsSomeAnd}
use Rattle.pass_status.specs.declared.status.Status.{Status}
use Rattle.pass_ask.specs.Answers.{text_with}
use Rattle.pass_ask.specs.Asked.{IsAnswerTo, asked_in}
use Rattle.pass_ask.proofs.Written.{stands_as, refusal_text}
use Rattle.pass_ask.proofs.asking.ask_for.Goals as goal

pub returns-clause-answer : goal.returns-clause-answer
returns-clause-answer g c = λ known.
    let j = c.judge_words-judged in
    let s = j.result.status in
    let w = c.write_answer.ensures in
    let (bytes, told, (by, says)) = j.ensures.judged (λ is. known (w.starved is)) in
    record {
      bytes = bytes;
      told = told;
      judged = s;
      by = by;
      text = text_with s c.deref.result.now;
      answer = λ done. subst (λ (t : List ℕ). IsSomeAnd (asked_in c.args.question) (λ q. IsAnswerTo q (g.D.Disk.view c.args.disk) bytes t))
          (sym (ap (λ (t : Status). text_with t c.deref.result.now) done ∙ c.deref.ensures.value)) (says done);
      refusal = λ other. refusal_text s c.deref.result.now other j.ensures.reported;
      stands = stands_as c.write_answer.result s known w.stands;
      whole = λ whole. w.whole whole known;
      part = w.part;
    }
