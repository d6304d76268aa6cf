use Rattle.std.proofs.Common.{◌≡◌, ◌∙◌, sym, ap, subst}
use Rattle.std.specs.Prelude.{Err, Option, Some}
use Rattle.pass_ask.specs.Asked.{IsPut, IsQuestionRead, asked_in}
use Rattle.pass_ask.specs.declared.words.Question.{Question}
use Rattle.pass_ask.specs.declared.words.Question.TheVariants.{Check, Graph, Match, Send}
use Rattle.pass_ask.proofs.Answering.{for_question, refused_judges, refused_reports, refused_writes}
use Rattle.pass_ask.proofs.Commands.{ok_same}
use Rattle.pass_ask.proofs.asking.judge_words.Goals as goal

put_as : (asked : Option Question) (q : Question) → asked ≡ Some q → IsPut (Some q) → IsPut asked
put_as asked q is put = subst IsPut (sym is) put

pub returns-in-Ok-Check-clause-judged : goal.returns-in-Ok-Check-clause-judged
returns-in-Ok-Check-clause-judged g c = λ known.
    for_question (asked_in c.args.question) Check (g.D.Disk.view c.args.disk.now) (g.D.Disk.view c.judge_store.new.disk) c.judge_store.result.status c.judge_store.result.text.items
    (ap asked_in (ok_same c.args.question c.in-Ok-Check.field-0 Check c.in-Ok-Check.is c.in-Ok-Check.field-0-is)) (c.judge_store.ensures.judged known)

pub returns-in-Ok-Check-clause-unopened : goal.returns-in-Ok-Check-clause-unopened
returns-in-Ok-Check-clause-unopened g c = λ lost. absurd (lost (put_as (asked_in c.args.question) Check (ap asked_in (ok_same c.args.question c.in-Ok-Check.field-0 Check c.in-Ok-Check.is c.in-Ok-Check.field-0-is)) (λ why is. is)))

pub returns-in-Ok-Graph-clause-judged : goal.returns-in-Ok-Graph-clause-judged
returns-in-Ok-Graph-clause-judged g c = λ known.
    for_question (asked_in c.args.question) (Graph c.in-Ok-Graph.question) (g.D.Disk.view c.args.disk.now) (g.D.Disk.view c.judge_graph.new.disk) c.judge_graph.result.status c.judge_graph.result.text.items
    (ap asked_in (ok_same c.args.question c.in-Ok-Graph.field-0 (Graph c.in-Ok-Graph.question) c.in-Ok-Graph.is c.in-Ok-Graph.field-0-is)) (c.judge_graph.ensures.judged known)

pub returns-in-Ok-Graph-clause-unopened : goal.returns-in-Ok-Graph-clause-unopened
returns-in-Ok-Graph-clause-unopened g c = λ lost. absurd (lost (put_as (asked_in c.args.question) (Graph c.in-Ok-Graph.question) (ap asked_in (ok_same c.args.question c.in-Ok-Graph.field-0 (Graph c.in-Ok-Graph.question) c.in-Ok-Graph.is c.in-Ok-Graph.field-0-is)) (λ why is. is)))

pub returns-in-Ok-Match-clause-judged : goal.returns-in-Ok-Match-clause-judged
returns-in-Ok-Match-clause-judged g c = λ known.
    for_question (asked_in c.args.question) (Match c.in-Ok-Match.from c.in-Ok-Match.text c.in-Ok-Match.form) (g.D.Disk.view c.args.disk.now) (g.D.Disk.view c.judge_match.new.disk) c.judge_match.result.status c.judge_match.result.text.items
    (ap asked_in (ok_same c.args.question c.in-Ok-Match.field-0 (Match c.in-Ok-Match.from c.in-Ok-Match.text c.in-Ok-Match.form) c.in-Ok-Match.is c.in-Ok-Match.field-0-is)) (c.judge_match.ensures.judged known)

pub returns-in-Ok-Match-clause-unopened : goal.returns-in-Ok-Match-clause-unopened
returns-in-Ok-Match-clause-unopened g c = λ lost. c.judge_match.ensures.unopened (λ put. lost (put_as (asked_in c.args.question) (Match c.in-Ok-Match.from c.in-Ok-Match.text c.in-Ok-Match.form) (ap asked_in (ok_same c.args.question c.in-Ok-Match.field-0 (Match c.in-Ok-Match.from c.in-Ok-Match.text c.in-Ok-Match.form) c.in-Ok-Match.is c.in-Ok-Match.field-0-is)) put))

pub returns-in-Ok-Send-clause-judged : goal.returns-in-Ok-Send-clause-judged
returns-in-Ok-Send-clause-judged g c = λ known.
    for_question (asked_in c.args.question) (Send c.in-Ok-Send.from) (g.D.Disk.view c.args.disk.now) (g.D.Disk.view c.judge_send.new.disk) c.judge_send.result.status c.judge_send.result.text.items
    (ap asked_in (ok_same c.args.question c.in-Ok-Send.field-0 (Send c.in-Ok-Send.from) c.in-Ok-Send.is c.in-Ok-Send.field-0-is)) (c.judge_send.ensures.judged known)

pub returns-in-Ok-Send-clause-unopened : goal.returns-in-Ok-Send-clause-unopened
returns-in-Ok-Send-clause-unopened g c = λ lost. absurd (lost (put_as (asked_in c.args.question) (Send c.in-Ok-Send.from) (ap asked_in (ok_same c.args.question c.in-Ok-Send.field-0 (Send c.in-Ok-Send.from) c.in-Ok-Send.is c.in-Ok-Send.field-0-is)) (λ why is. is)))

pub returns-in-Err-clause-judged : goal.returns-in-Err-clause-judged
returns-in-Err-clause-judged g c = λ known.
    refused_judges c.args.question c.refused.result.status (g.D.Disk.view c.args.disk.now) c.refused.result.text.items (c.in-Err.is ∙ ap Err (sym c.refused.ensures)) c.requires known

pub returns-in-Err-clause-reported : goal.returns-in-Err-clause-reported
returns-in-Err-clause-reported g c = refused_reports c.refused.result.status (subst IsQuestionRead (c.in-Err.is ∙ ap Err (sym c.refused.ensures)) c.requires)

pub returns-in-Err-clause-unwritten : goal.returns-in-Err-clause-unwritten
returns-in-Err-clause-unwritten g c = refused_writes c.refused.result.status (subst IsQuestionRead (c.in-Err.is ∙ ap Err (sym c.refused.ensures)) c.requires)
