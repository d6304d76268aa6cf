use Rattle.std.proofs.Common.{◌∙◌, inl, inr, refl, ap}
use Rattle.pass_leaf.specs.declared.fault.OldFault.{OldFault}
use Rattle.pass_old.specs.Statuses.{status_of_archive}
use Rattle.pass_old.proofs.Pruned.{nothing, archive_fresh, unread_work}
use Rattle.pass_old.proofs.Telling.{work_told, work_untold}
use Rattle.pass_old.proofs.Steps.{left_at, later_at, unopened_node}
use Rattle.pass_old.proofs.pruning.judge_prune.Goals as goal

pub returns-in-Ok-clause-by : goal.returns-in-Ok-clause-by
returns-in-Ok-clause-by g c = inr (record { leaves = c.in-Ok.leaves; end = c.in-Ok.ensures.leaves.0; is = c.in-Ok.ensures.leaves.1; by = c.prune_by_log.ensures.by })

pub returns-in-Ok-clause-work : goal.returns-in-Ok-clause-work
returns-in-Ok-clause-work g c =
    work_told (g.A.Disk.view c.args.archive.now) (g.A.Disk.view c.read_leaves.new.disk) c.in-Ok.leaves c.prune_by_log.result.status c.prune_by_log.ensures.no_archive c.in-Ok.ensures.work

pub returns-in-Ok-clause-reads : goal.returns-in-Ok-clause-reads
returns-in-Ok-clause-reads g c = λ _. c.in-Ok.ensures.content

pub unread-requires : goal.unread-requires
unread-requires g c = unopened_node (g.A.Disk.view c.args.archive.now) c.in-Err.fault c.in-Err.ensures.cause

pub returns-in-Err-clause-by : goal.returns-in-Err-clause-by
returns-in-Err-clause-by g c = inl (refl, c.refused.ensures.fresh, record { fault = c.in-Err.fault; is = λ node. c.refused.ensures.status ∙ c.unread.ensures.status node; cause = c.in-Err.ensures.cause })

pub returns-in-Err-clause-work : goal.returns-in-Err-clause-work
returns-in-Err-clause-work g c =
    work_untold (g.A.Disk.view c.args.archive.now) (g.A.Disk.view c.read_leaves.new.disk) c.in-Err.fault nothing c.refused.result.status c.in-Err.ensures.cause
    (c.refused.ensures.status ∙ c.unread.ensures.status nothing) c.in-Err.ensures.work

pub returns-in-Err-clause-reads : goal.returns-in-Err-clause-reads
returns-in-Err-clause-reads g c = λ other.
    elim c.in-Err.ensures.refused [
      | inl is ↦ absurd (other (c.refused.ensures.status ∙ c.unread.ensures.status nothing ∙ ap (λ (f : OldFault). status_of_archive f nothing) is))
      | inr same ↦ same
    ]

pub returns-in-Err-clause-fresh_work : goal.returns-in-Err-clause-fresh_work
returns-in-Err-clause-fresh_work g c = unread_work g.F.Disk.view c.args.fresh c.refused.result.fresh c.refused.result.status c.refused.ensures.fresh (archive_fresh c.in-Err.fault c.refused.result.status (c.refused.ensures.status ∙ c.unread.ensures.status nothing))

pub returns-in-Err-clause-store_alone : goal.returns-in-Err-clause-store_alone
returns-in-Err-clause-store_alone g c = left_at g.D.Disk.view c.args.disk.now c.args.disk.now refl

pub returns-in-Err-clause-store_later : goal.returns-in-Err-clause-store_later
returns-in-Err-clause-store_later g c = later_at g.D.Disk.view c.args.disk.now c.args.disk.now refl
