use Rattle.std.proofs.Common.{subst, ℕ, List}
use Rattle.std.specs.Prelude.{Option, map, string_bytes}
use Rattle.pass_ask.specs.Asked.{IsAsked}
use Rattle.pass_ask.specs.Shown.{shown_in}
use Rattle.pass_ask.specs.Words.{Reads}
use Rattle.pass_ask.specs.declared.words.Question.{Question}
use Rattle.pass_ask.proofs.Commands.{not_put, question_read, same_asked}
use Rattle.pass_ask.proofs.showing.show.Goals as goal

pub ask_for-requires : goal.ask_for-requires
ask_for-requires g c =
    question_read c.shown_in-question.result (shown_in c.args.folder.now (map string_bytes c.args.words.now))
    (subst (λ (folder : List ℕ). Reads c.shown_in-question.result (shown_in folder (map string_bytes c.args.words.now))) c.as_bytes.ensures.value c.shown_in-question.ensures)

pub returns-clause-answer : goal.returns-clause-answer
returns-clause-answer g c = λ known.
    let reads = subst (λ (folder : List ℕ). Reads c.shown_in-question.result (shown_in folder (map string_bytes c.args.words.now))) c.as_bytes.ensures.value c.shown_in-question.ensures in
    subst (λ (asked : Option Question). IsAsked asked (g.D.Disk.view c.args.disk) (g.D.Disk.view c.ask_for.result.disk)
    (record { tells = g.K.Sink.tells; before = g.K.Sink.taken c.args.sink.now; after = g.K.Sink.taken c.ask_for.new.sink }) c.ask_for.result.status)
    (same_asked c.shown_in-question.result (shown_in c.args.folder.now (map string_bytes c.args.words.now)) reads (λ starved. known (c.ask_for.ensures.starved starved)))
    (c.ask_for.ensures.answer known)

pub returns-clause-unopened : goal.returns-clause-unopened
returns-clause-unopened g c = λ lost.
    let reads = subst (λ (folder : List ℕ). Reads c.shown_in-question.result (shown_in folder (map string_bytes c.args.words.now))) c.as_bytes.ensures.value c.shown_in-question.ensures in
    c.ask_for.ensures.unopened (not_put c.shown_in-question.result (shown_in c.args.folder.now (map string_bytes c.args.words.now)) reads lost)
