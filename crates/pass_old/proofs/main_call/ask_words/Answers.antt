use Rattle.std.proofs.Common.{◌≡◌, ◌∙◌, ◌++◌, ℕ, List, sym, ap, subst}
use Rattle.pass_recover.specs.Later.{IsLeftAlone}
use Rattle.pass_status.specs.declared.status.Status.TheVariants as status
use Rattle.pass_status.specs.Writing.{IsPartOfText}
use Rattle.pass_ask.specs.Answers.{SinkSeen}
use Rattle.pass_old.specs.declared.status.OldStatus.{OldStatus}
use Rattle.pass_old.specs.declared.status.OldStatus.TheVariants as old_status
use Rattle.pass_old.specs.Answers.{old_text_with, IsQuestionAnswer}
use Rattle.pass_old.proofs.Steps.{later_as, later_work}
use Rattle.pass_old.proofs.Texts.{stands_as}
use Rattle.pass_old.proofs.main_call.ask_words.Goals as goal

pub returns-clause-asked : goal.returns-clause-asked
returns-clause-asked g c = λ known_end.
    let j = c.judge_question-judged in
    let w = c.write_old-status.ensures in
    let taken = g.K.Sink.taken in
    let view = g.A.Disk.view in
    let archive = j.new.archive in
    let sink : SinkSeen = record { tells = g.K.Sink.tells; before = taken c.args.sink.now; after = taken c.write_old-status.new.sink } in
    let known = λ (is : c.write_old-status.result ≡ old_status.Same status.NoMemory). known_end (c.unrun.ensures.status ∙ is) in
    let made : IsQuestionAnswer (view c.args.archive) (view archive) c.args.question sink c.write_old-status.result = record {
      judged = j.result.status;
      text = j.result.text.items;
      by = j.ensures.judged;
      work = j.ensures.work;
      reads = j.ensures.reads;
      written = record {
        stands = stands_as c.write_old-status.result j.result.status known w.stands;
        whole = λ whole tells. w.whole whole known tells ∙ ap (λ (t : List ℕ). taken c.args.sink.now ++ old_text_with j.result.status t) c.deref.ensures.value;
        part = λ fault tells. subst (λ (t : List ℕ). IsPartOfText (old_text_with j.result.status t) (taken c.args.sink.now) (taken c.write_old-status.new.sink)) c.deref.ensures.value (w.part fault tells);
      };
    } in
    subst (λ a. IsQuestionAnswer (view c.args.archive) (view a) c.args.question sink c.unrun.result.status) (sym c.unrun.ensures.archive)
    (subst (λ (s : OldStatus). IsQuestionAnswer (view c.args.archive) (view archive) c.args.question sink s) (sym c.unrun.ensures.status) made)

pub returns-clause-like : goal.returns-clause-like
returns-clause-like g c = λ is. c.judge_question-judged.ensures.like (c.write_old-status.ensures.unlike (sym c.unrun.ensures.status ∙ is))

pub returns-clause-archive_later : goal.returns-clause-archive_later
returns-clause-archive_later g c =
    let view = g.A.Disk.view in
    let j = c.judge_question-judged in
    later_as view c.args.archive j.new.archive c.unrun.result.archive c.unrun.ensures.archive (later_work (view c.args.archive) (view j.new.archive) _ j.ensures.work)

pub returns-clause-alone : goal.returns-clause-alone
returns-clause-alone g c = subst (λ a. IsLeftAlone (g.A.Disk.view c.args.archive) (g.A.Disk.view a)) (sym c.unrun.ensures.archive) c.judge_question-judged.ensures.alone
