use Rattle.std.proofs.Common.{◌∙◌, inl, inr, refl, sym, ap}
use Rattle.pass_entry.specs.declared.objects.Node.{Node}
use Rattle.pass_leaf.specs.declared.fault.OldFault.{OldFault}
use Rattle.pass_old.specs.Statuses.{status_of_archive}
use Rattle.pass_old.proofs.Consulted.{same_not_archive, same_not_unlike}
use Rattle.pass_old.proofs.Telling.{work_told, work_untold, archive_never}
use Rattle.pass_old.proofs.Steps.{left_at, later_at, unopened_node}
use Rattle.pass_old.proofs.consulting.consult.Goals as goal

abbrev nothing : Node
nothing = record { pnode = 0; version = 0 }

pub returns-in-Ok-clause-judged : goal.returns-in-Ok-clause-judged
returns-in-Ok-clause-judged g c = inr (record { leaves = c.in-Ok.leaves; end = c.in-Ok.ensures.leaves.0; is = c.in-Ok.ensures.leaves.1; by = c.judge_log.ensures.judged })

pub returns-in-Ok-clause-work : goal.returns-in-Ok-clause-work
returns-in-Ok-clause-work g c =
    work_told (g.A.Disk.view c.args.archive.now) (g.A.Disk.view c.read_leaves.new.disk) c.in-Ok.leaves c.judge_log.result.status (same_not_archive c.judge_log.result.status c.judge_log.ensures.own) c.in-Ok.ensures.work

pub returns-in-Ok-clause-like : goal.returns-in-Ok-clause-like
returns-in-Ok-clause-like g c = same_not_unlike c.judge_log.result.status c.judge_log.ensures.own

pub unread-requires : goal.unread-requires
unread-requires g c = unopened_node (g.A.Disk.view c.args.archive.now) c.in-Err.fault c.in-Err.ensures.cause

pub returns-in-Err-clause-judged : goal.returns-in-Err-clause-judged
returns-in-Err-clause-judged g c = inl (refl, record { fault = c.in-Err.fault; is = λ node. c.refused.ensures.status ∙ c.unread.ensures.status node; cause = c.in-Err.ensures.cause })

pub returns-in-Err-clause-work : goal.returns-in-Err-clause-work
returns-in-Err-clause-work g c =
    work_untold (g.A.Disk.view c.args.archive.now) (g.A.Disk.view c.read_leaves.new.disk) c.in-Err.fault nothing c.refused.result.status c.in-Err.ensures.cause
    (c.refused.ensures.status ∙ c.unread.ensures.status nothing) c.in-Err.ensures.work

pub returns-in-Err-clause-store_alone : goal.returns-in-Err-clause-store_alone
returns-in-Err-clause-store_alone g c = left_at g.D.Disk.view c.args.disk.now c.args.disk.now refl

pub returns-in-Err-clause-store_later : goal.returns-in-Err-clause-store_later
returns-in-Err-clause-store_later g c = later_at g.D.Disk.view c.args.disk.now c.args.disk.now refl

pub returns-in-Err-clause-no_write : goal.returns-in-Err-clause-no_write
returns-in-Err-clause-no_write g c = λ is. c.unread.ensures.no_write (sym c.refused.ensures.status ∙ is)

pub returns-in-Err-clause-like : goal.returns-in-Err-clause-like
returns-in-Err-clause-like g c = λ is. archive_never c.in-Err.fault nothing (sym (c.refused.ensures.status ∙ c.unread.ensures.status nothing) ∙ is)

pub returns-in-Ok-clause-reads : goal.returns-in-Ok-clause-reads
returns-in-Ok-clause-reads g c = λ _. c.in-Ok.ensures.content

pub returns-in-Err-clause-reads : goal.returns-in-Err-clause-reads
returns-in-Err-clause-reads g c = λ other.
    elim c.in-Err.ensures.refused [
      | inl is ↦ absurd (other (c.refused.ensures.status ∙ c.unread.ensures.status nothing ∙ ap (λ (f : OldFault). status_of_archive f nothing) is))
      | inr same ↦ same
    ]
