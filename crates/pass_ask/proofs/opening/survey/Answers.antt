use Rattle.std.proofs.Common.{◌∙◌, sym, ap, subst}
use Rattle.std.specs.Prelude.{IsTrue, List}
use Rattle.pass_entry.specs.declared.record.Record.{Record}
use Rattle.pass_outside.specs.Areas.{Image}
use Rattle.pass_outside.specs.Runs.{adds_both}
use Rattle.pass_plain.specs.WellLogged.{IsWellLogged}
use Rattle.pass_range.specs.Tables.{AreUnmatched, IsTableOf}
use Rattle.pass_ask.proofs.Answering.{logged_of}
use Rattle.pass_ask.proofs.opening.survey.Goals as goal

pub of-requires : goal.of-requires
of-requires g c = subst IsWellLogged (sym c.deref.ensures.value) (logged_of (g.D.Disk.view c.args.disk.now) c.in_ok-log.log.list.items c.in_ok-log.ensures.read)

pub returns-in-Ok-clause-unmatched : goal.returns-in-Ok-clause-unmatched
returns-in-Ok-clause-unmatched g c = λ told.
    let list : List Record = c.in_ok-log.log.list.items in
    subst (λ (i : Image). AreUnmatched list i.store c.in-Ok.unmatched.items) (c.in_ok-log.ensures.stays (λ err. absurd (cc)))
    (c.in-Ok.ensures.exactly (subst IsTrue (sym c.read_log.ensures.tells) told) list (subst (λ (l : List Record). IsTableOf l c.in_ok-table.table) c.deref.ensures.value c.in_ok-table.ensures))

pub returns-in-Ok-clause-run : goal.returns-in-Ok-clause-run
returns-in-Ok-clause-run g c =
    let old = g.D.Disk.view c.args.disk.now in
    adds_both old.may_leave old (g.D.Disk.view c.read_log.new.disk) (g.D.Disk.view c.unmatched.new.disk) c.read_log.ensures.run c.unmatched.ensures.run (λ i x. x) (λ i x. c.read_log.ensures.crash i x)

pub returns-in-Err-DiskFault-clause-run : goal.returns-in-Err-DiskFault-clause-run
returns-in-Err-DiskFault-clause-run g c =
    let old = g.D.Disk.view c.args.disk.now in
    adds_both old.may_leave old (g.D.Disk.view c.read_log.new.disk) (g.D.Disk.view c.unmatched.new.disk) c.read_log.ensures.run c.unmatched.ensures.run (λ i x. x) (λ i x. c.read_log.ensures.crash i x)
