use Rattle.std.proofs.Common.{sym, subst}
use Rattle.pass_run.specs.OpenedRuns.{IsReportedOver}
use Rattle.pass_run.proofs.Reported.{legal, reported_over}
use Rattle.pass_run.proofs.storing.with_report.Goals as goal

pub reported-requires-clause-legal : goal.reported-requires-clause-legal
reported-requires-clause-legal g c = λ lives within. legal g.D.Disk.view (g.D.Disk.view c.args.first.value) c.args.trace.now.lines.items c.args.order c.args.ended c.requires.over

pub returns : goal.returns
returns g c =
    let view = g.D.Disk.view in
    let old = view c.args.first.value in
    let lines = c.args.trace.now.lines.items in
    let r = c.reported.ensures in
    subst (IsReportedOver view old lines c.args.order) (sym r.same)
    (reported_over view old lines c.args.order c.args.ended c.requires.over c.reported.result.status c.reported.result.report r.status r.report r.no_report)
