use Rattle.std.proofs.Common.{◌∙◌, sym, ap, subst}
use Rattle.pass_session.specs.Sessions.{HasRefused}
use Rattle.pass_trace.specs.TraceLines.{objects_of}
use Rattle.pass_run.proofs.Refusing.{refused_run}
use Rattle.pass_run.proofs.storing.not_opened.Goals as goal

pub returns : goal.returns
returns g c =
    let view = g.D.Disk.view in
    let old = view c.args.first.value in
    let lines = c.args.trace.now.lines.items in
    let u = c.unopened.ensures in
    refused_run view old lines c.args.order c.unopened.result (record { no_list = u.list; no_start = u.start; no_history = u.history; no_syncs = u.syncs }, u.report) c.args.fault c.args.faults c.faults-now.result
    c.requires.faults (c.faults-now.ensures ∙ ap (λ d. (view d).faults) (sym u.disk)) (u.status ∙ c.opening_status.ensures)
    (subst (λ d. HasRefused view old (objects_of lines) (c.args.fault, d)) (sym u.disk) c.requires.refused)
