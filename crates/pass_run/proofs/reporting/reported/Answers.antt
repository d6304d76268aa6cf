use Rattle.std.proofs.Common.{◌≡◌, List, subst, sym, ⊎_elim}
use Rattle.pass_entry.specs.declared.entry.Entry.{Entry}
use Rattle.pass_report.specs.Reports.{IsLegalFrom}
use Rattle.pass_status.specs.declared.status.Status.TheVariants as status
use Rattle.pass_run.specs.Stored.{IsEnd}
use Rattle.pass_run.proofs.reporting.reported.Goals as goal

pub report-requires-clause-known : goal.report-requires-clause-known
report-requires-clause-known g c = λ lives within.
    let s = c.args.ended.status in
    let ends = ⊎_elim (λ (is : s ≡ status.Done). subst IsEnd (sym is) tt) (λ (is : s ≡ status.Stuck). subst IsEnd (sym is) tt) c.in-Done.is in
    let (session, legal) = c.requires.legal ends in
    (session, subst (λ (h : List Entry). IsLegalFrom c.args.ended.start h session) (sym c.deref.ensures.value) legal)
