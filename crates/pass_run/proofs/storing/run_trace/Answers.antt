use Rattle.std.proofs.Common.{sym, subst}
use Rattle.pass_recover.specs.Faults.{LogHas}
use Rattle.pass_run.specs.OpenedRuns.{IsRunOver}
use Rattle.pass_run.specs.Stored.{session_fault, IsStoreJudged, HasEnded}
use Rattle.pass_run.specs.Orders.{HasReplayed}
use Rattle.pass_run.proofs.storing.run_trace.Goals as goal

pub with_report-requires-clause-over : goal.with_report-requires-clause-over
with_report-requires-clause-over g c = λ lives within.
    let view = g.D.Disk.view in
    let u = c.run_unreported-ended.ensures in
    subst (λ d. IsRunOver view (view d) c.args.trace.now.lines.items c.args.order c.run_unreported-ended.result) (sym c.of-first.ensures) (record {
      disk_fault = u.disk_fault;
      no_fault = u.no_fault;
      judged = u.judged;
      bad_store = u.bad_store;
      recorded = u.recorded;
      backed = u.backed;
      ended = u.ended;
      silent = u.silent;
      replayed = u.replayed;
      later = u.later;
    })

pub returns-clause-judged : goal.returns-clause-judged
returns-clause-judged g c = λ some quiet.
    subst (λ d. LogHas (g.D.Disk.view d) (λ bytes. IsStoreJudged (session_fault bytes) c.with_report.result.status)) c.of-first.ensures (c.with_report.ensures.judged some quiet)

pub returns-clause-ended : goal.returns-clause-ended
returns-clause-ended g c = λ end.
    let view = g.D.Disk.view in
    let e = c.with_report.result in
    subst (λ d. HasEnded (view d).calls (view d) (view e.disk) c.args.trace.now.lines.items e.list.items e.start e.history.items e.syncs.items e.status e.report.items) c.of-first.ensures (c.with_report.ensures.ended end)

pub returns-clause-replayed : goal.returns-clause-replayed
returns-clause-replayed g c = λ is.
    let e = c.with_report.result in
    subst (λ d. HasReplayed (g.D.Disk.view d) c.args.trace.now.lines.items e.list.items e.start e.history.items e.syncs.items e.status) c.of-first.ensures (c.with_report.ensures.replayed is)
