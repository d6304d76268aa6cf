use Rattle.std.proofs.Common.{◌≡◌, ◌⊎◌, ◌∙◌, refl, sym, ap, subst}
use Rattle.std.specs.Prelude.{map, string_bytes}
use Rattle.pass_files.specs.declared.spelled.Spelled.{Spelled}
use Rattle.pass_ask.specs.Answers.{SinkSeen}
use Rattle.pass_status.specs.declared.status.Status.TheVariants as status
use Rattle.pass_old.specs.declared.status.OldStatus.{OldStatus}
use Rattle.pass_old.specs.declared.status.OldStatus.TheVariants as old_status
use Rattle.pass_old.specs.declared.words.OldCommand.TheVariants.{Run, Ask, Consult, Tar}
use Rattle.pass_old.specs.declared.words.OldQuestion.{OldQuestion}
use Rattle.pass_old.specs.declared.words.LogQuestion.{LogQuestion}
use Rattle.pass_old.specs.Answers.{IsQuestionAnswer, IsConsultAnswer}
use Rattle.pass_old.specs.Tars.{IsTarAnswer, IsTarJudged}
use Rattle.pass_old.specs.Words.{command_of}
use Rattle.pass_old.proofs.Steps.{later_at, left_at}
use Rattle.pass_old.proofs.Texts.{stands_as, unlike_only}
use Rattle.pass_old.proofs.Faulting.{answer_work, question_work, consult_work, words_work, answer_words, question_words, consult_words, tar_refused, tar_work}
use Rattle.pass_old.proofs.Wholes.{answer_kept, answer_like}
use Rattle.pass_old.proofs.Worded.{is_command, none_asked, other_asked, run_ask, run_consult, run_tar, ask_consult, ask_tar, consult_tar, named_not_none, named_not_run, named_not_asked, one_question, one_consulted, one_tar}
use Rattle.pass_old.proofs.main_call.old_main.Goals as goal

pub returns-in-Err-clause-bad_words : goal.returns-in-Err-clause-bad_words
returns-in-Err-clause-bad_words g c = λ none. absurd (named_not_none (command_of (map string_bytes c.args.words.now)) (c.in-Err.ensures.refused refl) none)

pub returns-in-Err-clause-run : goal.returns-in-Err-clause-run
returns-in-Err-clause-run g c = λ workers is. absurd (named_not_run (command_of (map string_bytes c.args.words.now)) workers (c.in-Err.ensures.refused refl) is)

pub returns-in-Err-clause-kept : goal.returns-in-Err-clause-kept
returns-in-Err-clause-kept g c = λ workers is. absurd (named_not_run (command_of (map string_bytes c.args.words.now)) workers (c.in-Err.ensures.refused refl) is)

pub returns-in-Err-clause-like : goal.returns-in-Err-clause-like
returns-in-Err-clause-like g c = λ is tells. let z : old_status.Same status.NoMemory ≡ old_status.Unlike = sym c.unrun.ensures.status ∙ is in cc

pub returns-in-Err-clause-stops : goal.returns-in-Err-clause-stops
returns-in-Err-clause-stops g c = λ tells workers is. absurd (named_not_run (command_of (map string_bytes c.args.words.now)) workers (c.in-Err.ensures.refused refl) is)

pub returns-in-Err-clause-asked : goal.returns-in-Err-clause-asked
returns-in-Err-clause-asked g c = λ question is. absurd (named_not_asked (command_of (map string_bytes c.args.words.now)) question (c.in-Err.ensures.refused refl) is)

pub returns-in-Err-clause-consulted : goal.returns-in-Err-clause-consulted
returns-in-Err-clause-consulted g c = λ question is known. absurd (known c.unrun.ensures.status)

pub returns-in-Err-clause-tarred : goal.returns-in-Err-clause-tarred
returns-in-Err-clause-tarred g c = λ node is known. absurd (known c.unrun.ensures.status)

pub returns-in-Err-clause-unrun : goal.returns-in-Err-clause-unrun
returns-in-Err-clause-unrun g c = λ other. (record { nothing = c.unrun.ensures.nothing; disk = left_at g.D.Disk.view c.args.disk c.unrun.result.disk c.unrun.ensures.disk; kept = left_at g.A.Disk.view c.args.archive c.unrun.result.archive c.unrun.ensures.archive }, refl)

pub returns-in-Err-clause-archive_alone : goal.returns-in-Err-clause-archive_alone
returns-in-Err-clause-archive_alone g c = λ question is. c.unrun.ensures.disk

pub returns-in-Err-clause-untouched : goal.returns-in-Err-clause-untouched
returns-in-Err-clause-untouched g c = λ none. (c.unrun.ensures.disk, c.unrun.ensures.archive)

pub returns-in-Err-clause-later : goal.returns-in-Err-clause-later
returns-in-Err-clause-later g c = later_at g.D.Disk.view c.args.disk c.unrun.result.disk c.unrun.ensures.disk

pub returns-in-Err-clause-archive_later : goal.returns-in-Err-clause-archive_later
returns-in-Err-clause-archive_later g c = later_at g.A.Disk.view c.args.archive c.unrun.result.archive c.unrun.ensures.archive

pub returns-in-Err-clause-write_fault : goal.returns-in-Err-clause-write_fault
returns-in-Err-clause-write_fault g c = λ known. absurd (known c.unrun.ensures.status)

pub returns-in-Err-clause-archive_fault : goal.returns-in-Err-clause-archive_fault
returns-in-Err-clause-archive_fault g c = λ known taken. absurd (known c.unrun.ensures.status)

pub returns-in-Err-clause-refused_words : goal.returns-in-Err-clause-refused_words
returns-in-Err-clause-refused_words g c = λ is. let z : old_status.Same status.NoMemory ≡ old_status.Same status.BadWords = sym c.unrun.ensures.status ∙ is in absurd (cc)

pub returns-in-Some-Run-clause-bad_words : goal.returns-in-Some-Run-clause-bad_words
returns-in-Some-Run-clause-bad_words g c = λ none. absurd (none_asked (command_of (map string_bytes c.args.words.now)) (Run c.in-Some-Run.workers) (is_command c.in-Ok.command (command_of (map string_bytes c.args.words.now)) c.in-Some-Run.field-0 (Run c.in-Some-Run.workers) c.in-Ok.ensures.command c.in-Some-Run.is c.in-Some-Run.field-0-is) none)

pub returns-in-Some-Run-clause-run : goal.returns-in-Some-Run-clause-run
returns-in-Some-Run-clause-run g c = λ workers is. c.run_words.ensures.run

pub returns-in-Some-Run-clause-kept : goal.returns-in-Some-Run-clause-kept
returns-in-Some-Run-clause-kept g c = λ workers is ended.
    let r = c.run_words.result in
    let taken = g.K.Sink.taken in
    let sink : SinkSeen = record { tells = g.K.Sink.tells; before = taken c.args.sink.now; after = taken c.run_words.new.sink } in
    let (bytes, told, by) = c.run_words.ensures.run in
    answer_kept g.D.Disk.view g.A.Disk.view bytes _ _ sink c.args.disk r.disk c.args.archive r.archive r.start r.history.items r.status by ended

pub returns-in-Some-Run-clause-like : goal.returns-in-Some-Run-clause-like
returns-in-Some-Run-clause-like g c = λ is tells.
    let r = c.run_words.result in
    let taken = g.K.Sink.taken in
    let sink : SinkSeen = record { tells = g.K.Sink.tells; before = taken c.args.sink.now; after = taken c.run_words.new.sink } in
    let (bytes, told, by) = c.run_words.ensures.run in
    answer_like g.D.Disk.view g.A.Disk.view bytes _ _ sink c.args.disk r.disk c.args.archive r.archive r.start r.history.items r.status by c.same_told.ensures is tells

pub returns-in-Some-Run-clause-stops : goal.returns-in-Some-Run-clause-stops
returns-in-Some-Run-clause-stops g c = λ tells workers is known. c.run_words.ensures.stops tells known

pub returns-in-Some-Run-clause-asked : goal.returns-in-Some-Run-clause-asked
returns-in-Some-Run-clause-asked g c = λ question is. absurd (other_asked (command_of (map string_bytes c.args.words.now)) (Run c.in-Some-Run.workers) (Ask question) (run_ask c.in-Some-Run.workers question) (is_command c.in-Ok.command (command_of (map string_bytes c.args.words.now)) c.in-Some-Run.field-0 (Run c.in-Some-Run.workers) c.in-Ok.ensures.command c.in-Some-Run.is c.in-Some-Run.field-0-is) is)

pub returns-in-Some-Run-clause-consulted : goal.returns-in-Some-Run-clause-consulted
returns-in-Some-Run-clause-consulted g c = λ question is. absurd (other_asked (command_of (map string_bytes c.args.words.now)) (Run c.in-Some-Run.workers) (Consult question) (run_consult c.in-Some-Run.workers question) (is_command c.in-Ok.command (command_of (map string_bytes c.args.words.now)) c.in-Some-Run.field-0 (Run c.in-Some-Run.workers) c.in-Ok.ensures.command c.in-Some-Run.is c.in-Some-Run.field-0-is) is)

pub returns-in-Some-Run-clause-tarred : goal.returns-in-Some-Run-clause-tarred
returns-in-Some-Run-clause-tarred g c = λ node is. absurd (other_asked (command_of (map string_bytes c.args.words.now)) (Run c.in-Some-Run.workers) (Tar node) (run_tar c.in-Some-Run.workers node) (is_command c.in-Ok.command (command_of (map string_bytes c.args.words.now)) c.in-Some-Run.field-0 (Run c.in-Some-Run.workers) c.in-Ok.ensures.command c.in-Some-Run.is c.in-Some-Run.field-0-is) is)

pub returns-in-Some-Run-clause-archive_alone : goal.returns-in-Some-Run-clause-archive_alone
returns-in-Some-Run-clause-archive_alone g c = λ question is. absurd (other_asked (command_of (map string_bytes c.args.words.now)) (Run c.in-Some-Run.workers) (Ask question) (run_ask c.in-Some-Run.workers question) (is_command c.in-Ok.command (command_of (map string_bytes c.args.words.now)) c.in-Some-Run.field-0 (Run c.in-Some-Run.workers) c.in-Ok.ensures.command c.in-Some-Run.is c.in-Some-Run.field-0-is) is)

pub returns-in-Some-Run-clause-unrun : goal.returns-in-Some-Run-clause-unrun
returns-in-Some-Run-clause-unrun g c = λ other. absurd (other c.in-Some-Run.workers (is_command c.in-Ok.command (command_of (map string_bytes c.args.words.now)) c.in-Some-Run.field-0 (Run c.in-Some-Run.workers) c.in-Ok.ensures.command c.in-Some-Run.is c.in-Some-Run.field-0-is))

pub returns-in-Some-Run-clause-untouched : goal.returns-in-Some-Run-clause-untouched
returns-in-Some-Run-clause-untouched g c = λ none. absurd (none_asked (command_of (map string_bytes c.args.words.now)) (Run c.in-Some-Run.workers) (is_command c.in-Ok.command (command_of (map string_bytes c.args.words.now)) c.in-Some-Run.field-0 (Run c.in-Some-Run.workers) c.in-Ok.ensures.command c.in-Some-Run.is c.in-Some-Run.field-0-is) none)

pub returns-in-Some-Run-clause-archive_fault : goal.returns-in-Some-Run-clause-archive_fault
returns-in-Some-Run-clause-archive_fault g c = λ known taken_whole.
    let r = c.run_words.result in
    let taken = g.K.Sink.taken in
    let sink : SinkSeen = record { tells = g.K.Sink.tells; before = taken c.args.sink.now; after = taken c.run_words.new.sink } in
    let (bytes, told, by) = c.run_words.ensures.run in
    answer_work g.D.Disk.view g.A.Disk.view bytes _ _ sink c.args.disk r.disk c.args.archive r.archive r.start r.history.items r.status by known taken_whole

pub returns-in-Some-Run-clause-refused_words : goal.returns-in-Some-Run-clause-refused_words
returns-in-Some-Run-clause-refused_words g c = λ is.
    let r = c.run_words.result in
    let taken = g.K.Sink.taken in
    let sink : SinkSeen = record { tells = g.K.Sink.tells; before = taken c.args.sink.now; after = taken c.run_words.new.sink } in
    let (bytes, told, by) = c.run_words.ensures.run in
    absurd (answer_words g.D.Disk.view g.A.Disk.view bytes _ _ sink c.args.disk r.disk c.args.archive r.archive r.start r.history.items r.status by is)

pub returns-in-Some-Ask-clause-bad_words : goal.returns-in-Some-Ask-clause-bad_words
returns-in-Some-Ask-clause-bad_words g c = λ none. absurd (none_asked (command_of (map string_bytes c.args.words.now)) (Ask c.in-Some-Ask.question) (is_command c.in-Ok.command (command_of (map string_bytes c.args.words.now)) c.in-Some-Ask.field-0 (Ask c.in-Some-Ask.question) c.in-Ok.ensures.command c.in-Some-Ask.is c.in-Some-Ask.field-0-is) none)

pub returns-in-Some-Ask-clause-untouched : goal.returns-in-Some-Ask-clause-untouched
returns-in-Some-Ask-clause-untouched g c = λ none. absurd (none_asked (command_of (map string_bytes c.args.words.now)) (Ask c.in-Some-Ask.question) (is_command c.in-Ok.command (command_of (map string_bytes c.args.words.now)) c.in-Some-Ask.field-0 (Ask c.in-Some-Ask.question) c.in-Ok.ensures.command c.in-Some-Ask.is c.in-Some-Ask.field-0-is) none)

pub returns-in-Some-Ask-clause-run : goal.returns-in-Some-Ask-clause-run
returns-in-Some-Ask-clause-run g c = λ workers is. absurd (other_asked (command_of (map string_bytes c.args.words.now)) (Run workers) (Ask c.in-Some-Ask.question) (run_ask workers c.in-Some-Ask.question) is (is_command c.in-Ok.command (command_of (map string_bytes c.args.words.now)) c.in-Some-Ask.field-0 (Ask c.in-Some-Ask.question) c.in-Ok.ensures.command c.in-Some-Ask.is c.in-Some-Ask.field-0-is))

pub returns-in-Some-Ask-clause-kept : goal.returns-in-Some-Ask-clause-kept
returns-in-Some-Ask-clause-kept g c = λ workers is. absurd (other_asked (command_of (map string_bytes c.args.words.now)) (Run workers) (Ask c.in-Some-Ask.question) (run_ask workers c.in-Some-Ask.question) is (is_command c.in-Ok.command (command_of (map string_bytes c.args.words.now)) c.in-Some-Ask.field-0 (Ask c.in-Some-Ask.question) c.in-Ok.ensures.command c.in-Some-Ask.is c.in-Some-Ask.field-0-is))

pub returns-in-Some-Ask-clause-stops : goal.returns-in-Some-Ask-clause-stops
returns-in-Some-Ask-clause-stops g c = λ tells workers is. absurd (other_asked (command_of (map string_bytes c.args.words.now)) (Run workers) (Ask c.in-Some-Ask.question) (run_ask workers c.in-Some-Ask.question) is (is_command c.in-Ok.command (command_of (map string_bytes c.args.words.now)) c.in-Some-Ask.field-0 (Ask c.in-Some-Ask.question) c.in-Ok.ensures.command c.in-Some-Ask.is c.in-Some-Ask.field-0-is))

pub returns-in-Some-Ask-clause-like : goal.returns-in-Some-Ask-clause-like
returns-in-Some-Ask-clause-like g c = λ is tells. c.ask_words.ensures.like is

pub returns-in-Some-Ask-clause-asked : goal.returns-in-Some-Ask-clause-asked
returns-in-Some-Ask-clause-asked g c = λ question is known.
    let taken = g.K.Sink.taken in
    let sink : SinkSeen = record { tells = g.K.Sink.tells; before = taken c.args.sink.now; after = taken c.ask_words.new.sink } in
    let same = one_question (command_of (map string_bytes c.args.words.now)) c.in-Some-Ask.question question (is_command c.in-Ok.command (command_of (map string_bytes c.args.words.now)) c.in-Some-Ask.field-0 (Ask c.in-Some-Ask.question) c.in-Ok.ensures.command c.in-Some-Ask.is c.in-Some-Ask.field-0-is) is in
    subst (λ (q : OldQuestion). IsQuestionAnswer (g.A.Disk.view c.args.archive) (g.A.Disk.view c.ask_words.result.archive) q sink c.ask_words.result.status) same (c.ask_words.ensures.asked known)

pub returns-in-Some-Ask-clause-consulted : goal.returns-in-Some-Ask-clause-consulted
returns-in-Some-Ask-clause-consulted g c = λ question is. absurd (other_asked (command_of (map string_bytes c.args.words.now)) (Ask c.in-Some-Ask.question) (Consult question) (ask_consult c.in-Some-Ask.question question) (is_command c.in-Ok.command (command_of (map string_bytes c.args.words.now)) c.in-Some-Ask.field-0 (Ask c.in-Some-Ask.question) c.in-Ok.ensures.command c.in-Some-Ask.is c.in-Some-Ask.field-0-is) is)

pub returns-in-Some-Ask-clause-tarred : goal.returns-in-Some-Ask-clause-tarred
returns-in-Some-Ask-clause-tarred g c = λ node is. absurd (other_asked (command_of (map string_bytes c.args.words.now)) (Ask c.in-Some-Ask.question) (Tar node) (ask_tar c.in-Some-Ask.question node) (is_command c.in-Ok.command (command_of (map string_bytes c.args.words.now)) c.in-Some-Ask.field-0 (Ask c.in-Some-Ask.question) c.in-Ok.ensures.command c.in-Some-Ask.is c.in-Some-Ask.field-0-is) is)

pub returns-in-Some-Ask-clause-unrun : goal.returns-in-Some-Ask-clause-unrun
returns-in-Some-Ask-clause-unrun g c = λ other. (record { nothing = c.ask_words.ensures.nothing; disk = left_at g.D.Disk.view c.args.disk c.ask_words.result.disk c.ask_words.ensures.disk; kept = c.ask_words.ensures.alone }, refl)

pub returns-in-Some-Ask-clause-archive_alone : goal.returns-in-Some-Ask-clause-archive_alone
returns-in-Some-Ask-clause-archive_alone g c = λ question is. c.ask_words.ensures.disk

pub returns-in-Some-Ask-clause-later : goal.returns-in-Some-Ask-clause-later
returns-in-Some-Ask-clause-later g c = later_at g.D.Disk.view c.args.disk c.ask_words.result.disk c.ask_words.ensures.disk

pub returns-in-Some-Ask-clause-archive_fault : goal.returns-in-Some-Ask-clause-archive_fault
returns-in-Some-Ask-clause-archive_fault g c = λ known taken_whole.
    let r = c.ask_words.result in
    let taken = g.K.Sink.taken in
    let sink : SinkSeen = record { tells = g.K.Sink.tells; before = taken c.args.sink.now; after = taken c.ask_words.new.sink } in
    question_work (g.A.Disk.view c.args.archive) (g.A.Disk.view r.archive) c.in-Some-Ask.question sink r.status (c.ask_words.ensures.asked known) taken_whole

pub returns-in-Some-Ask-clause-refused_words : goal.returns-in-Some-Ask-clause-refused_words
returns-in-Some-Ask-clause-refused_words g c = λ is.
    let r = c.ask_words.result in
    let taken = g.K.Sink.taken in
    let sink : SinkSeen = record { tells = g.K.Sink.tells; before = taken c.args.sink.now; after = taken c.ask_words.new.sink } in
    let known : r.status ≡ old_status.Same status.NoMemory → ⊥ = λ starved. let z : old_status.Same status.NoMemory ≡ old_status.Same status.BadWords = sym starved ∙ is in cc in
    absurd (question_words (g.A.Disk.view c.args.archive) (g.A.Disk.view r.archive) c.in-Some-Ask.question sink r.status is (c.ask_words.ensures.asked known))

pub returns-in-Some-Consult-clause-bad_words : goal.returns-in-Some-Consult-clause-bad_words
returns-in-Some-Consult-clause-bad_words g c = λ none. absurd (none_asked (command_of (map string_bytes c.args.words.now)) (Consult c.in-Some-Consult.question) (is_command c.in-Ok.command (command_of (map string_bytes c.args.words.now)) c.in-Some-Consult.field-0 (Consult c.in-Some-Consult.question) c.in-Ok.ensures.command c.in-Some-Consult.is c.in-Some-Consult.field-0-is) none)

pub returns-in-Some-Consult-clause-untouched : goal.returns-in-Some-Consult-clause-untouched
returns-in-Some-Consult-clause-untouched g c = λ none. absurd (none_asked (command_of (map string_bytes c.args.words.now)) (Consult c.in-Some-Consult.question) (is_command c.in-Ok.command (command_of (map string_bytes c.args.words.now)) c.in-Some-Consult.field-0 (Consult c.in-Some-Consult.question) c.in-Ok.ensures.command c.in-Some-Consult.is c.in-Some-Consult.field-0-is) none)

pub returns-in-Some-Consult-clause-run : goal.returns-in-Some-Consult-clause-run
returns-in-Some-Consult-clause-run g c = λ workers is. absurd (other_asked (command_of (map string_bytes c.args.words.now)) (Run workers) (Consult c.in-Some-Consult.question) (run_consult workers c.in-Some-Consult.question) is (is_command c.in-Ok.command (command_of (map string_bytes c.args.words.now)) c.in-Some-Consult.field-0 (Consult c.in-Some-Consult.question) c.in-Ok.ensures.command c.in-Some-Consult.is c.in-Some-Consult.field-0-is))

pub returns-in-Some-Consult-clause-kept : goal.returns-in-Some-Consult-clause-kept
returns-in-Some-Consult-clause-kept g c = λ workers is. absurd (other_asked (command_of (map string_bytes c.args.words.now)) (Run workers) (Consult c.in-Some-Consult.question) (run_consult workers c.in-Some-Consult.question) is (is_command c.in-Ok.command (command_of (map string_bytes c.args.words.now)) c.in-Some-Consult.field-0 (Consult c.in-Some-Consult.question) c.in-Ok.ensures.command c.in-Some-Consult.is c.in-Some-Consult.field-0-is))

pub returns-in-Some-Consult-clause-stops : goal.returns-in-Some-Consult-clause-stops
returns-in-Some-Consult-clause-stops g c = λ tells workers is. absurd (other_asked (command_of (map string_bytes c.args.words.now)) (Run workers) (Consult c.in-Some-Consult.question) (run_consult workers c.in-Some-Consult.question) is (is_command c.in-Ok.command (command_of (map string_bytes c.args.words.now)) c.in-Some-Consult.field-0 (Consult c.in-Some-Consult.question) c.in-Ok.ensures.command c.in-Some-Consult.is c.in-Some-Consult.field-0-is))

pub returns-in-Some-Consult-clause-like : goal.returns-in-Some-Consult-clause-like
returns-in-Some-Consult-clause-like g c = λ is tells. c.consult_words.ensures.like is

pub returns-in-Some-Consult-clause-asked : goal.returns-in-Some-Consult-clause-asked
returns-in-Some-Consult-clause-asked g c = λ question is. absurd (other_asked (command_of (map string_bytes c.args.words.now)) (Ask question) (Consult c.in-Some-Consult.question) (ask_consult question c.in-Some-Consult.question) is (is_command c.in-Ok.command (command_of (map string_bytes c.args.words.now)) c.in-Some-Consult.field-0 (Consult c.in-Some-Consult.question) c.in-Ok.ensures.command c.in-Some-Consult.is c.in-Some-Consult.field-0-is))

pub returns-in-Some-Consult-clause-archive_alone : goal.returns-in-Some-Consult-clause-archive_alone
returns-in-Some-Consult-clause-archive_alone g c = λ question is. absurd (other_asked (command_of (map string_bytes c.args.words.now)) (Ask question) (Consult c.in-Some-Consult.question) (ask_consult question c.in-Some-Consult.question) is (is_command c.in-Ok.command (command_of (map string_bytes c.args.words.now)) c.in-Some-Consult.field-0 (Consult c.in-Some-Consult.question) c.in-Ok.ensures.command c.in-Some-Consult.is c.in-Some-Consult.field-0-is))

pub returns-in-Some-Consult-clause-consulted : goal.returns-in-Some-Consult-clause-consulted
returns-in-Some-Consult-clause-consulted g c = λ question is known.
    let taken = g.K.Sink.taken in
    let sink : SinkSeen = record { tells = g.K.Sink.tells; before = taken c.args.sink.now; after = taken c.consult_words.new.sink } in
    let r = c.consult_words.result in
    let same = one_consulted (command_of (map string_bytes c.args.words.now)) c.in-Some-Consult.question question (is_command c.in-Ok.command (command_of (map string_bytes c.args.words.now)) c.in-Some-Consult.field-0 (Consult c.in-Some-Consult.question) c.in-Ok.ensures.command c.in-Some-Consult.is c.in-Some-Consult.field-0-is) is in
    subst (λ (q : LogQuestion). IsConsultAnswer g.D.Disk.view g.A.Disk.view c.args.disk r.disk c.args.archive r.archive q sink r.status) same (c.consult_words.ensures.consulted known)

pub returns-in-Some-Consult-clause-tarred : goal.returns-in-Some-Consult-clause-tarred
returns-in-Some-Consult-clause-tarred g c = λ node is. absurd (other_asked (command_of (map string_bytes c.args.words.now)) (Consult c.in-Some-Consult.question) (Tar node) (consult_tar c.in-Some-Consult.question node) (is_command c.in-Ok.command (command_of (map string_bytes c.args.words.now)) c.in-Some-Consult.field-0 (Consult c.in-Some-Consult.question) c.in-Ok.ensures.command c.in-Some-Consult.is c.in-Some-Consult.field-0-is) is)

pub returns-in-Some-Consult-clause-unrun : goal.returns-in-Some-Consult-clause-unrun
returns-in-Some-Consult-clause-unrun g c = λ other. (record { nothing = c.consult_words.ensures.nothing; disk = c.consult_words.ensures.store_alone; kept = c.consult_words.ensures.alone }, refl)

pub returns-in-Some-Consult-clause-archive_fault : goal.returns-in-Some-Consult-clause-archive_fault
returns-in-Some-Consult-clause-archive_fault g c = λ known taken_whole.
    let r = c.consult_words.result in
    let taken = g.K.Sink.taken in
    let sink : SinkSeen = record { tells = g.K.Sink.tells; before = taken c.args.sink.now; after = taken c.consult_words.new.sink } in
    consult_work g.D.Disk.view g.A.Disk.view c.args.disk r.disk c.args.archive r.archive c.in-Some-Consult.question sink r.status (c.consult_words.ensures.consulted known) taken_whole

pub returns-in-Some-Consult-clause-refused_words : goal.returns-in-Some-Consult-clause-refused_words
returns-in-Some-Consult-clause-refused_words g c = λ is.
    let r = c.consult_words.result in
    let taken = g.K.Sink.taken in
    let sink : SinkSeen = record { tells = g.K.Sink.tells; before = taken c.args.sink.now; after = taken c.consult_words.new.sink } in
    let known : r.status ≡ old_status.Same status.NoMemory → ⊥ = λ starved. let z : old_status.Same status.NoMemory ≡ old_status.Same status.BadWords = sym starved ∙ is in cc in
    absurd (consult_words g.D.Disk.view g.A.Disk.view c.args.disk r.disk c.args.archive r.archive c.in-Some-Consult.question sink r.status (c.consult_words.ensures.consulted known) is)

pub returns-in-Some-Tar-clause-bad_words : goal.returns-in-Some-Tar-clause-bad_words
returns-in-Some-Tar-clause-bad_words g c = λ none. absurd (none_asked (command_of (map string_bytes c.args.words.now)) (Tar c.in-Some-Tar.node) (is_command c.in-Ok.command (command_of (map string_bytes c.args.words.now)) c.in-Some-Tar.field-0 (Tar c.in-Some-Tar.node) c.in-Ok.ensures.command c.in-Some-Tar.is c.in-Some-Tar.field-0-is) none)

pub returns-in-Some-Tar-clause-untouched : goal.returns-in-Some-Tar-clause-untouched
returns-in-Some-Tar-clause-untouched g c = λ none. absurd (none_asked (command_of (map string_bytes c.args.words.now)) (Tar c.in-Some-Tar.node) (is_command c.in-Ok.command (command_of (map string_bytes c.args.words.now)) c.in-Some-Tar.field-0 (Tar c.in-Some-Tar.node) c.in-Ok.ensures.command c.in-Some-Tar.is c.in-Some-Tar.field-0-is) none)

pub returns-in-Some-Tar-clause-run : goal.returns-in-Some-Tar-clause-run
returns-in-Some-Tar-clause-run g c = λ workers is. absurd (other_asked (command_of (map string_bytes c.args.words.now)) (Run workers) (Tar c.in-Some-Tar.node) (run_tar workers c.in-Some-Tar.node) is (is_command c.in-Ok.command (command_of (map string_bytes c.args.words.now)) c.in-Some-Tar.field-0 (Tar c.in-Some-Tar.node) c.in-Ok.ensures.command c.in-Some-Tar.is c.in-Some-Tar.field-0-is))

pub returns-in-Some-Tar-clause-kept : goal.returns-in-Some-Tar-clause-kept
returns-in-Some-Tar-clause-kept g c = λ workers is. absurd (other_asked (command_of (map string_bytes c.args.words.now)) (Run workers) (Tar c.in-Some-Tar.node) (run_tar workers c.in-Some-Tar.node) is (is_command c.in-Ok.command (command_of (map string_bytes c.args.words.now)) c.in-Some-Tar.field-0 (Tar c.in-Some-Tar.node) c.in-Ok.ensures.command c.in-Some-Tar.is c.in-Some-Tar.field-0-is))

pub returns-in-Some-Tar-clause-stops : goal.returns-in-Some-Tar-clause-stops
returns-in-Some-Tar-clause-stops g c = λ tells workers is. absurd (other_asked (command_of (map string_bytes c.args.words.now)) (Run workers) (Tar c.in-Some-Tar.node) (run_tar workers c.in-Some-Tar.node) is (is_command c.in-Ok.command (command_of (map string_bytes c.args.words.now)) c.in-Some-Tar.field-0 (Tar c.in-Some-Tar.node) c.in-Ok.ensures.command c.in-Some-Tar.is c.in-Some-Tar.field-0-is))

pub returns-in-Some-Tar-clause-asked : goal.returns-in-Some-Tar-clause-asked
returns-in-Some-Tar-clause-asked g c = λ question is. absurd (other_asked (command_of (map string_bytes c.args.words.now)) (Ask question) (Tar c.in-Some-Tar.node) (ask_tar question c.in-Some-Tar.node) is (is_command c.in-Ok.command (command_of (map string_bytes c.args.words.now)) c.in-Some-Tar.field-0 (Tar c.in-Some-Tar.node) c.in-Ok.ensures.command c.in-Some-Tar.is c.in-Some-Tar.field-0-is))

pub returns-in-Some-Tar-clause-archive_alone : goal.returns-in-Some-Tar-clause-archive_alone
returns-in-Some-Tar-clause-archive_alone g c = λ question is. absurd (other_asked (command_of (map string_bytes c.args.words.now)) (Ask question) (Tar c.in-Some-Tar.node) (ask_tar question c.in-Some-Tar.node) is (is_command c.in-Ok.command (command_of (map string_bytes c.args.words.now)) c.in-Some-Tar.field-0 (Tar c.in-Some-Tar.node) c.in-Ok.ensures.command c.in-Some-Tar.is c.in-Some-Tar.field-0-is))

pub returns-in-Some-Tar-clause-consulted : goal.returns-in-Some-Tar-clause-consulted
returns-in-Some-Tar-clause-consulted g c = λ question is. absurd (other_asked (command_of (map string_bytes c.args.words.now)) (Consult question) (Tar c.in-Some-Tar.node) (consult_tar question c.in-Some-Tar.node) is (is_command c.in-Ok.command (command_of (map string_bytes c.args.words.now)) c.in-Some-Tar.field-0 (Tar c.in-Some-Tar.node) c.in-Ok.ensures.command c.in-Some-Tar.is c.in-Some-Tar.field-0-is))

pub returns-in-Some-Tar-clause-like : goal.returns-in-Some-Tar-clause-like
returns-in-Some-Tar-clause-like g c = λ is tells. c.tar_words.ensures.like is

pub returns-in-Some-Tar-clause-tarred : goal.returns-in-Some-Tar-clause-tarred
returns-in-Some-Tar-clause-tarred g c = λ node is known.
    let r = c.tar_words.result in
    let taken = g.K.Sink.taken in
    let sink : SinkSeen = record { tells = g.K.Sink.tells; before = taken c.args.sink.now; after = taken c.tar_words.new.sink } in
    let same = one_tar (command_of (map string_bytes c.args.words.now)) c.in-Some-Tar.node node (is_command c.in-Ok.command (command_of (map string_bytes c.args.words.now)) c.in-Some-Tar.field-0 (Tar c.in-Some-Tar.node) c.in-Ok.ensures.command c.in-Some-Tar.is c.in-Some-Tar.field-0-is) is in
    subst (λ (n : Spelled). IsTarAnswer (IsTarJudged g.D.Disk.view g.A.Disk.view c.args.disk r.disk c.args.archive r.archive n) sink r.status r.lacking.items) same (c.tar_words.ensures.tarred known)

pub returns-in-Some-Tar-clause-unrun : goal.returns-in-Some-Tar-clause-unrun
returns-in-Some-Tar-clause-unrun g c = λ other. (record { nothing = c.tar_words.ensures.nothing; disk = c.tar_words.ensures.store_alone; kept = c.tar_words.ensures.alone }, refl)

pub returns-in-Some-Tar-clause-archive_fault : goal.returns-in-Some-Tar-clause-archive_fault
returns-in-Some-Tar-clause-archive_fault g c = λ known taken_whole.
    let r = c.tar_words.result in
    let taken = g.K.Sink.taken in
    let sink : SinkSeen = record { tells = g.K.Sink.tells; before = taken c.args.sink.now; after = taken c.tar_words.new.sink } in
    tar_work g.D.Disk.view g.A.Disk.view c.args.disk r.disk c.args.archive r.archive c.in-Some-Tar.node sink r.status r.lacking.items (c.tar_words.ensures.tarred known) taken_whole

pub returns-in-Some-Tar-clause-refused_words : goal.returns-in-Some-Tar-clause-refused_words
returns-in-Some-Tar-clause-refused_words g c = λ is.
    let r = c.tar_words.result in
    let taken = g.K.Sink.taken in
    let sink : SinkSeen = record { tells = g.K.Sink.tells; before = taken c.args.sink.now; after = taken c.tar_words.new.sink } in
    let known : r.status ≡ old_status.Same status.NoMemory → ⊥ = λ starved. let z : old_status.Same status.NoMemory ≡ old_status.Same status.BadWords = sym starved ∙ is in cc in
    absurd (tar_refused g.D.Disk.view g.A.Disk.view c.args.disk r.disk c.args.archive r.archive c.in-Some-Tar.node sink r.status r.lacking.items (c.tar_words.ensures.tarred known) is)

pub returns-in-None-clause-run : goal.returns-in-None-clause-run
returns-in-None-clause-run g c = λ workers is. absurd (none_asked (command_of (map string_bytes c.args.words.now)) (Run workers) is (sym c.in-Ok.ensures.command ∙ c.in-None.is))

pub returns-in-None-clause-kept : goal.returns-in-None-clause-kept
returns-in-None-clause-kept g c = λ workers is. absurd (none_asked (command_of (map string_bytes c.args.words.now)) (Run workers) is (sym c.in-Ok.ensures.command ∙ c.in-None.is))

pub returns-in-None-clause-stops : goal.returns-in-None-clause-stops
returns-in-None-clause-stops g c = λ tells workers is. absurd (none_asked (command_of (map string_bytes c.args.words.now)) (Run workers) is (sym c.in-Ok.ensures.command ∙ c.in-None.is))

pub returns-in-None-clause-asked : goal.returns-in-None-clause-asked
returns-in-None-clause-asked g c = λ question is. absurd (none_asked (command_of (map string_bytes c.args.words.now)) (Ask question) is (sym c.in-Ok.ensures.command ∙ c.in-None.is))

pub returns-in-None-clause-archive_alone : goal.returns-in-None-clause-archive_alone
returns-in-None-clause-archive_alone g c = λ question is. absurd (none_asked (command_of (map string_bytes c.args.words.now)) (Ask question) is (sym c.in-Ok.ensures.command ∙ c.in-None.is))

pub returns-in-None-clause-consulted : goal.returns-in-None-clause-consulted
returns-in-None-clause-consulted g c = λ question is. absurd (none_asked (command_of (map string_bytes c.args.words.now)) (Consult question) is (sym c.in-Ok.ensures.command ∙ c.in-None.is))

pub returns-in-None-clause-tarred : goal.returns-in-None-clause-tarred
returns-in-None-clause-tarred g c = λ node is. absurd (none_asked (command_of (map string_bytes c.args.words.now)) (Tar node) is (sym c.in-Ok.ensures.command ∙ c.in-None.is))

pub returns-in-None-clause-like : goal.returns-in-None-clause-like
returns-in-None-clause-like g c = λ is tells.
    let w = c.write_old-status in
    let z : old_status.Same status.BadWords ≡ old_status.Unlike = unlike_only w.result (old_status.Same status.BadWords) (sym c.unrun-in-None.ensures.status ∙ is) w.ensures.stands in
    cc

pub returns-in-None-clause-later : goal.returns-in-None-clause-later
returns-in-None-clause-later g c = later_at g.D.Disk.view c.args.disk c.unrun-in-None.result.disk c.unrun-in-None.ensures.disk

pub returns-in-None-clause-archive_later : goal.returns-in-None-clause-archive_later
returns-in-None-clause-archive_later g c = later_at g.A.Disk.view c.args.archive c.unrun-in-None.result.archive c.unrun-in-None.ensures.archive

pub returns-in-None-clause-unrun : goal.returns-in-None-clause-unrun
returns-in-None-clause-unrun g c = λ other. (record { nothing = c.unrun-in-None.ensures.nothing; disk = left_at g.D.Disk.view c.args.disk c.unrun-in-None.result.disk c.unrun-in-None.ensures.disk; kept = left_at g.A.Disk.view c.args.archive c.unrun-in-None.result.archive c.unrun-in-None.ensures.archive }, refl)

pub returns-in-None-clause-untouched : goal.returns-in-None-clause-untouched
returns-in-None-clause-untouched g c = λ none. (c.unrun-in-None.ensures.disk, c.unrun-in-None.ensures.archive)

pub returns-in-None-clause-archive_fault : goal.returns-in-None-clause-archive_fault
returns-in-None-clause-archive_fault g c = λ known taken.
    let w = c.write_old-status in
    let stands = stands_as c.unrun-in-None.result.status (old_status.Same status.BadWords) known
    (subst (λ (s : OldStatus). (s ≡ old_status.Same status.BadWords) ⊎ ((s ≡ old_status.Same status.WriteFault) ⊎ (s ≡ old_status.Same status.NoMemory))) (sym c.unrun-in-None.ensures.status) w.ensures.stands) in
    words_work (g.A.Disk.view c.args.archive) (g.A.Disk.view c.unrun-in-None.result.archive) c.unrun-in-None.result.status (ap g.A.Disk.view (sym c.unrun-in-None.ensures.archive)) stands taken

pub returns-in-None-clause-refused_words : goal.returns-in-None-clause-refused_words
returns-in-None-clause-refused_words g c = λ is. sym c.in-Ok.ensures.command ∙ c.in-None.is
