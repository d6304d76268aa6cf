use Rattle.std.proofs.Common.{◌∙◌, inl, inr, sym, ap}
use Rattle.pass_entry.specs.declared.objects.Node.{Node}
use Rattle.pass_leaf.specs.declared.fault.OldFault.{OldFault}
use Rattle.pass_old.specs.Statuses.{status_of_archive}
use Rattle.pass_old.proofs.Telling.{told_not, work_told, work_untold, archive_never}
use Rattle.pass_old.proofs.Steps.{unopened_node}
use Rattle.pass_old.proofs.questions.judge_question.Goals as goal

abbrev nothing : Node
nothing = record { pnode = 0; version = 0 }

pub returns-in-Ok-clause-judged : goal.returns-in-Ok-clause-judged
returns-in-Ok-clause-judged g c = inr (record { leaves = c.in-Ok.leaves; end = c.in-Ok.ensures.leaves.0; archive = c.in-Ok.ensures.leaves.1; told = c.told_by.ensures })

pub returns-in-Ok-clause-work : goal.returns-in-Ok-clause-work
returns-in-Ok-clause-work g c =
    work_told (g.A.Disk.view c.args.archive.now) (g.A.Disk.view c.read_leaves.new.disk) c.in-Ok.leaves c.told_by.result.status
    (told_not c.in-Ok.leaves c.args.question c.told_by.result.status c.told_by.result.text.items c.told_by.ensures).0 c.in-Ok.ensures.work

pub returns-in-Ok-clause-no_write : goal.returns-in-Ok-clause-no_write
returns-in-Ok-clause-no_write g c = (told_not c.in-Ok.leaves c.args.question c.told_by.result.status c.told_by.result.text.items c.told_by.ensures).1

pub returns-in-Ok-clause-like : goal.returns-in-Ok-clause-like
returns-in-Ok-clause-like g c = (told_not c.in-Ok.leaves c.args.question c.told_by.result.status c.told_by.result.text.items c.told_by.ensures).2

pub unread-requires : goal.unread-requires
unread-requires g c = unopened_node (g.A.Disk.view c.args.archive.now) c.in-Err.fault c.in-Err.ensures.cause

pub returns-in-Err-clause-judged : goal.returns-in-Err-clause-judged
returns-in-Err-clause-judged g c = inl (record { fault = c.in-Err.fault; is = λ node. c.refused.ensures.status ∙ c.unread.ensures.status node; cause = c.in-Err.ensures.cause })

pub returns-in-Err-clause-work : goal.returns-in-Err-clause-work
returns-in-Err-clause-work g c =
    work_untold (g.A.Disk.view c.args.archive.now) (g.A.Disk.view c.read_leaves.new.disk) c.in-Err.fault nothing c.refused.result.status c.in-Err.ensures.cause
    (c.refused.ensures.status ∙ c.unread.ensures.status nothing) c.in-Err.ensures.work

pub returns-in-Err-clause-no_write : goal.returns-in-Err-clause-no_write
returns-in-Err-clause-no_write g c = λ is. c.unread.ensures.no_write (sym c.refused.ensures.status ∙ is)

pub returns-in-Err-clause-like : goal.returns-in-Err-clause-like
returns-in-Err-clause-like g c = λ is. archive_never c.in-Err.fault nothing (sym (c.refused.ensures.status ∙ c.unread.ensures.status nothing) ∙ is)

pub returns-in-Ok-clause-reads : goal.returns-in-Ok-clause-reads
returns-in-Ok-clause-reads g c = λ _. c.in-Ok.ensures.content

pub returns-in-Err-clause-reads : goal.returns-in-Err-clause-reads
returns-in-Err-clause-reads g c = λ other.
    elim c.in-Err.ensures.refused [
      | inl is ↦ absurd (other (c.refused.ensures.status ∙ c.unread.ensures.status nothing ∙ ap (λ (f : OldFault). status_of_archive f nothing) is))
      | inr same ↦ same
    ]
