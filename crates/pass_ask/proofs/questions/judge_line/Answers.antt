use Rattle.std.proofs.Common.{sym, ap, ◌∙◌, subst}
use Rattle.std.specs.Prelude.{Err, Option, option_and_then}
use Rattle.pass_status.specs.declared.status.Status.{Status}
use Rattle.pass_ask.specs.Questions.{IsToldOver, line_words, to_graph}
use Rattle.pass_ask.specs.Words.{question_of}
use Rattle.pass_ask.specs.declared.words.Question.{Question}
use Rattle.pass_ask.specs.declared.words.Question.TheVariants.{Check, Graph, Match, Send}
use Rattle.pass_ask.proofs.Answering.{given_answered}
use Rattle.pass_ask.proofs.Turns.{asks_so, over_question, over_refused, refused_unwritten}
use Rattle.pass_ask.proofs.questions.judge_line.Goals as goal

pub returns-in-Ok-Graph-clause-over : goal.returns-in-Ok-Graph-clause-over
returns-in-Ok-Graph-clause-over c =
    let list = c.args.index.now in
    let q = Graph c.in-Ok-Graph.question in
    subst (λ (asked : Option Question). IsToldOver list asked c.told.result.status c.told.result.text.items)
    (sym (asks_so c.asked_by.result (question_of (line_words c.args.json c.args.line.now)) c.asked_by.ensures q c.in-Ok-Graph.field-0 c.in-Ok-Graph.is c.in-Ok-Graph.field-0-is))
    (over_question list q c.told.result.status c.told.result.text.items (λ why is. is)
    (given_answered list q c.graph_answer.result c.told.result.status c.told.result.text.items c.told.ensures.given c.graph_answer.ensures.text c.graph_answer.ensures.absent))

pub returns-in-Ok-Match-clause-over : goal.returns-in-Ok-Match-clause-over
returns-in-Ok-Match-clause-over c =
    let q = Match c.in-Ok-Match.from c.in-Ok-Match.text c.in-Ok-Match.form in
    subst (λ (asked : Option Question). IsToldOver c.args.index.now asked c.match_answer.result.status c.match_answer.result.text.items)
    (sym (asks_so c.asked_by.result (question_of (line_words c.args.json c.args.line.now)) c.asked_by.ensures q c.in-Ok-Match.field-0 c.in-Ok-Match.is c.in-Ok-Match.field-0-is))
    c.match_answer.ensures.over

pub returns-in-Ok-Check-clause-over : goal.returns-in-Ok-Check-clause-over
returns-in-Ok-Check-clause-over c =
    let asked = asks_so c.asked_by.result (question_of (line_words c.args.json c.args.line.now)) c.asked_by.ensures Check c.in-Ok-Check.field-0 c.in-Ok-Check.is c.in-Ok-Check.field-0-is in
    subst (λ (s : Status). IsToldOver c.args.index.now (option_and_then to_graph (question_of (line_words c.args.json c.args.line.now))) s c.refused.result.text.items) (sym c.refused.ensures) asked

pub returns-in-Ok-Send-clause-over : goal.returns-in-Ok-Send-clause-over
returns-in-Ok-Send-clause-over c =
    let asked = asks_so c.asked_by.result (question_of (line_words c.args.json c.args.line.now)) c.asked_by.ensures (Send c.in-Ok-Send._from) c.in-Ok-Send.field-0 c.in-Ok-Send.is c.in-Ok-Send.field-0-is in
    subst (λ (s : Status). IsToldOver c.args.index.now (option_and_then to_graph (question_of (line_words c.args.json c.args.line.now))) s c.refused-in-Ok-Send.result.text.items) (sym c.refused-in-Ok-Send.ensures) asked

pub returns-in-Err-clause-over : goal.returns-in-Err-clause-over
returns-in-Err-clause-over c =
    over_refused c.asked_by.result (question_of (line_words c.args.json c.args.line.now)) c.asked_by.ensures c.refused-in-Err.result.status c.args.index.now c.refused-in-Err.result.text.items
    (c.in-Err.is ∙ ap Err (sym c.refused-in-Err.ensures))

pub returns-in-Err-clause-unwritten : goal.returns-in-Err-clause-unwritten
returns-in-Err-clause-unwritten c =
    refused_unwritten c.asked_by.result (question_of (line_words c.args.json c.args.line.now)) c.asked_by.ensures c.refused-in-Err.result.status (c.in-Err.is ∙ ap Err (sym c.refused-in-Err.ensures))
