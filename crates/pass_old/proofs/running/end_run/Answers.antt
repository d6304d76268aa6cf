use Rattle.std.proofs.Common.{List, subst}
use Rattle.pass_entry.specs.declared.entry.Entry.{Entry}
use Rattle.pass_entry.specs.declared.record.Record.{Record}
use Rattle.pass_trace.specs.TraceLines.{objects_of}
use Rattle.pass_old.specs.Runs.{IsKeptAs}
use Rattle.pass_old.proofs.Steps.{handed_out, later_as}
use Rattle.pass_old.proofs.running.end_run.Goals as goal

pub returns-clause-kept : goal.returns-clause-kept
returns-clause-kept g c =
    let view = g.A.Disk.view in
    let last = c.keep_run-status.new.old in
    let k = c.keep_run-status.ensures in
    let n = objects_of c.args.trace.now.lines.items in
    let ended = c.args.run.status in
    let start = c.args.opening.now.start in
    let list = c.args.opening.now.image.list.items in (
      last,
      subst (λ (l : List Record). IsKeptAs view c.args.old last list l start n c.args.run.history.items ended c.keep_run-status.result) c.deref.ensures.value
          (subst (λ (h : List Entry). IsKeptAs view c.args.old last list c.deref.result.now start n h ended c.keep_run-status.result) c.deref-2.ensures.value k.kept),
      handed_out view last c.into_disk.result c.into_disk.ensures.disk c.into_disk.ensures.leaves,
    )

pub returns-clause-later : goal.returns-clause-later
returns-clause-later g c =
    later_as g.A.Disk.view c.args.old.disk c.keep_run-status.new.old.disk c.into_disk.result c.into_disk.ensures.disk c.keep_run-status.ensures.later
