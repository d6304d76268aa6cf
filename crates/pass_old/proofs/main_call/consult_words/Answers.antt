use Rattle.std.proofs.Common.{◌≡◌, ◌∙◌, ◌++◌, ℕ, List, sym, ap, subst}
use Rattle.pass_recover.specs.Later.{IsLeftAlone}
use Rattle.pass_status.specs.declared.status.Status.TheVariants as status
use Rattle.pass_status.specs.Writing.{IsPartOfText}
use Rattle.pass_ask.specs.Answers.{SinkSeen}
use Rattle.pass_old.specs.declared.status.OldStatus.{OldStatus}
use Rattle.pass_old.specs.declared.status.OldStatus.TheVariants as old_status
use Rattle.pass_old.specs.Answers.{old_text_with, IsConsultAnswer}
use Rattle.pass_old.proofs.Steps.{later_as, later_work}
use Rattle.pass_old.proofs.Texts.{stands_as}
use Rattle.pass_old.proofs.main_call.consult_words.Goals as goal

pub returns-clause-consulted : goal.returns-clause-consulted
returns-clause-consulted g c = λ known_end.
    let j = c.consult-judged in
    let w = c.write_old-status.ensures in
    let taken = g.K.Sink.taken in
    let view = g.D.Disk.view in
    let archive_view = g.A.Disk.view in
    let disk = j.new.disk in
    let archive = j.new.archive in
    let sink : SinkSeen = record { tells = g.K.Sink.tells; before = taken c.args.sink.now; after = taken c.write_old-status.new.sink } in
    let known = λ (is : c.write_old-status.result ≡ old_status.Same status.NoMemory). known_end (c.unrun.ensures.status ∙ is) in
    let made : IsConsultAnswer view archive_view c.args.disk disk c.args.archive archive c.args.question.now sink c.write_old-status.result = record {
      judged = j.result.status;
      text = j.result.text.items;
      by = j.ensures.judged;
      work = j.ensures.work;
      reads = j.ensures.reads;
      written = record {
        stands = stands_as c.write_old-status.result j.result.status known w.stands;
        whole = λ whole tells. w.whole whole known tells ∙ ap (λ (t : List ℕ). taken c.args.sink.now ++ old_text_with j.result.status t) c.deref.ensures.value;
        part = λ fault tells. subst (λ (t : List ℕ). IsPartOfText (old_text_with j.result.status t) (taken c.args.sink.now) (taken c.write_old-status.new.sink)) c.deref.ensures.value (w.part fault tells);
      };
    } in
    subst (λ d. IsConsultAnswer view archive_view c.args.disk d c.args.archive c.unrun.result.archive c.args.question.now sink c.unrun.result.status) (sym c.unrun.ensures.disk)
    (subst (λ a. IsConsultAnswer view archive_view c.args.disk disk c.args.archive a c.args.question.now sink c.unrun.result.status) (sym c.unrun.ensures.archive)
    (subst (λ (s : OldStatus). IsConsultAnswer view archive_view c.args.disk disk c.args.archive archive c.args.question.now sink s) (sym c.unrun.ensures.status) made))

pub returns-clause-like : goal.returns-clause-like
returns-clause-like g c = λ is. c.consult-judged.ensures.like (c.write_old-status.ensures.unlike (sym c.unrun.ensures.status ∙ is))

pub returns-clause-alone : goal.returns-clause-alone
returns-clause-alone g c = subst (λ a. IsLeftAlone (g.A.Disk.view c.args.archive) (g.A.Disk.view a)) (sym c.unrun.ensures.archive) c.consult-judged.ensures.alone

pub returns-clause-store_alone : goal.returns-clause-store_alone
returns-clause-store_alone g c = subst (λ d. IsLeftAlone (g.D.Disk.view c.args.disk) (g.D.Disk.view d)) (sym c.unrun.ensures.disk) c.consult-judged.ensures.store_alone

pub returns-clause-later : goal.returns-clause-later
returns-clause-later g c = later_as g.D.Disk.view c.args.disk c.consult-judged.new.disk c.unrun.result.disk c.unrun.ensures.disk c.consult-judged.ensures.store_later

pub returns-clause-archive_later : goal.returns-clause-archive_later
returns-clause-archive_later g c =
    let view = g.A.Disk.view in
    let j = c.consult-judged in
    later_as view c.args.archive j.new.archive c.unrun.result.archive c.unrun.ensures.archive (later_work (view c.args.archive) (view j.new.archive) _ j.ensures.work)
