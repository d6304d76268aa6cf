use Rattle.std.proofs.Common.{◌∙◌, ℕ, List, inl, inr, refl, sym, ap}
use Rattle.pass_entry.specs.declared.objects.Node.{Node}
use Rattle.pass_leaf.specs.declared.fault.OldFault.{OldFault}
use Rattle.pass_ask.specs.Answers.{SinkSeen}
use Rattle.pass_old.specs.declared.status.OldStatus.{OldStatus}
use Rattle.pass_old.specs.Consults.{IsJudgedByLog}
use Rattle.pass_old.specs.Statuses.{status_of_archive}
use Rattle.pass_old.specs.Tars.{IsTarJudged, IsTarTold}
use Rattle.pass_old.proofs.Laden.{archive_text, judged_as, logged_not_archive, refusal}
use Rattle.pass_old.proofs.Steps.{later_at, later_work, left_at, unopened_node}
use Rattle.pass_old.proofs.Telling.{archive_never, work_told, work_untold}
use Rattle.pass_old.proofs.tarring.tar.Goals as goal

abbrev nothing : Node
nothing = record { pnode = 0; version = 0 }

pub returns-in-Ok-clause-answer : goal.returns-in-Ok-clause-answer
returns-in-Ok-clause-answer g c = λ known.
    let taken = g.K.Sink.taken in
    let view = g.D.Disk.view in
    let archive_view = g.A.Disk.view in
    let w = c.write_by_log in
    let before = view c.args.disk.now in
    let after = view w.new.disk in
    let sink : SinkSeen = record { tells = g.K.Sink.tells; before = taken c.args.sink.now; after = taken w.new.sink } in
    judged_as (λ (t : List ℕ) (l : List Node) (j : OldStatus). IsJudgedByLog before after c.in-Ok.leaves (IsTarTold c.args.node.now t l j) j)
    (IsTarJudged view archive_view c.args.disk.now w.new.disk c.args.archive.now c.read_leaves.new.disk c.args.node.now) sink w.result.status w.result.lacking.items
    (λ t l j by. record {
      by = inr (record { leaves = c.in-Ok.leaves; end = c.in-Ok.ensures.leaves.0; is = c.in-Ok.ensures.leaves.1; by = by });
      work = work_told (archive_view c.args.archive.now) (archive_view c.read_leaves.new.disk) c.in-Ok.leaves j (logged_not_archive before after c.in-Ok.leaves c.args.node.now t l j by) c.in-Ok.ensures.work;
      reads = λ _. c.in-Ok.ensures.content;
    }) (w.ensures.answer known)

pub returns-in-Ok-clause-later : goal.returns-in-Ok-clause-later
returns-in-Ok-clause-later g c = later_work (g.A.Disk.view c.args.archive.now) (g.A.Disk.view c.read_leaves.new.disk) _ c.in-Ok.ensures.work

pub unread-requires : goal.unread-requires
unread-requires g c = unopened_node (g.A.Disk.view c.args.archive.now) c.in-Err.fault c.in-Err.ensures.cause

pub refuse-requires : goal.refuse-requires
refuse-requires g c = c.unread.ensures.no_write

pub returns-in-Err-clause-answer : goal.returns-in-Err-clause-answer
returns-in-Err-clause-answer g c = λ known.
    let taken = g.K.Sink.taken in
    let view = g.D.Disk.view in
    let archive_view = g.A.Disk.view in
    let r = c.refuse in
    let judged = c.unread.result in
    let sink : SinkSeen = record { tells = g.K.Sink.tells; before = taken c.args.sink.now; after = taken r.new.sink } in
    refusal (IsTarJudged view archive_view c.args.disk.now c.args.disk.now c.args.archive.now c.read_leaves.new.disk c.args.node.now) judged sink r.result.status r.result.lacking.items
    (record {
      by = inl (refl, record { fault = c.in-Err.fault; is = c.unread.ensures.status; cause = c.in-Err.ensures.cause });
      work = work_untold (archive_view c.args.archive.now) (archive_view c.read_leaves.new.disk) c.in-Err.fault nothing judged c.in-Err.ensures.cause (c.unread.ensures.status nothing) c.in-Err.ensures.work;
      reads = λ other. elim c.in-Err.ensures.refused [
        | inl is ↦ absurd (other (c.unread.ensures.status nothing ∙ ap (λ (f : OldFault). status_of_archive f nothing) is))
        | inr same ↦ same
      ];
    }) (archive_text judged c.in-Err.fault nothing (c.unread.ensures.status nothing)) (r.ensures.written known) r.ensures.lacking

pub returns-in-Err-clause-later : goal.returns-in-Err-clause-later
returns-in-Err-clause-later g c = later_work (g.A.Disk.view c.args.archive.now) (g.A.Disk.view c.read_leaves.new.disk) _ c.in-Err.ensures.work

pub returns-in-Err-clause-store_alone : goal.returns-in-Err-clause-store_alone
returns-in-Err-clause-store_alone g c = left_at g.D.Disk.view c.args.disk.now c.args.disk.now refl

pub returns-in-Err-clause-store_later : goal.returns-in-Err-clause-store_later
returns-in-Err-clause-store_later g c = later_at g.D.Disk.view c.args.disk.now c.args.disk.now refl

pub returns-in-Err-clause-like : goal.returns-in-Err-clause-like
returns-in-Err-clause-like g c = λ is. archive_never c.in-Err.fault nothing (sym (c.unread.ensures.status nothing) ∙ c.refuse.ensures.unlike is)
