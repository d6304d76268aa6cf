use Rattle.std.proofs.Common.{sym, subst}
use Rattle.pass_pattern.specs.Patterns.{shape_of}
use Rattle.pass_status.specs.declared.status.Status.{Status}
use Rattle.pass_ask.specs.Asked.{IsPatternStatus}
use Rattle.pass_ask.specs.declared.words.Question.TheVariants.{Match}
use Rattle.pass_ask.proofs.Answering.{given_answered, matched_answer, pattern_writes}
use Rattle.pass_ask.proofs.Patterns.{no_fault}
use Rattle.pass_ask.proofs.Turns.{over_pattern, over_question}
use Rattle.pass_ask.proofs.matching.match_answer.Goals as goal

pub returns-in-Ok-clause-over : goal.returns-in-Ok-clause-over
returns-in-Ok-clause-over c =
    let list = c.args.index.now in
    let text = c.args.text.now in
    let shape = shape_of c.in-Ok.pattern in
    let q = Match c.args.from text c.args.form in
    over_question list q c.told.result.status c.told.result.text.items (no_fault text shape c.in-Ok.ensures.pattern)
    (given_answered list q c.answer.result c.told.result.status c.told.result.text.items c.told.ensures.given
    (matched_answer list text shape c.args.from c.args.form c.answer.result c.in-Ok.ensures.pattern c.answer.ensures.text) c.answer.ensures.absent)

pub returns-in-Err-clause-over : goal.returns-in-Err-clause-over
returns-in-Err-clause-over c =
    over_pattern c.args.index.now c.args.from c.args.text.now c.args.form c.refused.result.text.items c.refused.result.status
    (subst (λ (s : Status). IsPatternStatus c.args.text.now s) (sym c.refused.ensures) c.in-Err.ensures.refused)

pub returns-in-Err-clause-unwritten : goal.returns-in-Err-clause-unwritten
returns-in-Err-clause-unwritten c = pattern_writes c.args.text.now c.refused.result.status (subst (λ (s : Status). IsPatternStatus c.args.text.now s) (sym c.refused.ensures) c.in-Err.ensures.refused)
