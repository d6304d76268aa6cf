use Rattle.std.proofs.Common.{◌≡◌, ◌∙◌, List, Vec, Global, sym, ap, subst}
use Rattle.pass_entry.specs.declared.record.Record.{Record}
use Rattle.pass_plain.specs.declared.start.Start.{Start}
use Rattle.pass_replay.specs.Needs.{places_of}
use Rattle.pass_trace.specs.TraceLines.{objects_of, plain_trace}
use Rattle.pass_plain.specs.Outlines.{SameButBytes}
use Rattle.pass_trace.specs.declared.trace.TraceLine.{TraceLine}
use Rattle.pass_walk.specs.Runs.{IsRanBy}
use Rattle.pass_run.specs.Closing.{status_of}
use Rattle.pass_run.specs.declared.ending.RunEnd.{RunEnd}
use Rattle.pass_run.specs.OpenedRuns.{IsRunOver}
use Rattle.pass_run.specs.Stored.{IsBare, HasBegun, IsLater}
use Rattle.pass_run.proofs.Overs.{gone_on_so, later_by, over_run}
use Rattle.pass_run.proofs.Telling.{has_ran, has_replayed}
use Rattle.pass_order.specs.Replayed.{IsReplayedBy, IsReplayedTo}
use Rattle.pass_run.specs.declared.order.Order.TheVariants as orders
use Rattle.pass_run.proofs.Refusing.{begun_alone, held_back}
use Rattle.pass_run.proofs.storing.run_opened.Goals as goal

pub returns-in_default : goal.returns-in_default
returns-in_default g c =
    let view = g.D.Disk.view in
    let old = view c.args.first.value in
    let lines = c.args.trace.now.lines.items in
    let u = c.unopened.ensures in
    let disk = u.disk ∙ c.into_disk.ensures in
    held_back view old lines c.args.order c.unopened.result (record { no_list = u.list; no_start = u.start; no_history = u.history; no_syncs = u.syncs }, u.report) u.status
    (subst (λ d. HasBegun old (view d) (objects_of lines)) (sym disk) (begun_alone view old (objects_of lines) (places_of (plain_trace lines)) c.args.opened c.requires.session))
    (subst (λ d. IsLater old (view d)) (sym disk) c.requires.session.later)

pub returns-in-Err : goal.returns-in-Err
returns-in-Err g c =
    let view = g.D.Disk.view in
    let old = view c.args.first.value in
    let lines = c.args.trace.now.lines.items in
    let u = c.unopened-in-Err.ensures in
    let disk = u.disk ∙ c.in-Err.ensures.disk in
    held_back view old lines c.args.order c.unopened-in-Err.result (record { no_list = u.list; no_start = u.start; no_history = u.history; no_syncs = u.syncs }, u.report) u.status
    (subst (λ d. HasBegun old (view d) (objects_of lines)) (sym disk) (begun_alone view old (objects_of lines) (places_of (plain_trace lines)) c.args.opened c.requires.session))
    (subst (λ d. IsLater old (view d)) (sym disk) c.requires.session.later)

pub hand_out-requires-clause-enough : goal.hand_out-requires-clause-enough
hand_out-requires-clause-enough g c =
    let ran = has_ran g.D.Disk.view (g.D.Disk.view c.args.first.value) c.args.trace.now.lines.items c.args.opened c.ends.ensures.ran c.requires.trace c.requires.session g.J.Whose.book c.requires.book g.J.Whose.places c.requires.places
    c.serve-trails.result.trails.items c.serve-trails.result.last c.finish-finished.result.closed.history.items
    (subst (λ (ls : List TraceLine). IsRanBy g.J.Whose.book.session g.J.Whose.places (plain_trace ls) c.serve-trails.result.trails.items c.serve-trails.result.last) c.requires.plan c.serve-trails.ensures.ran)
    c.finish-finished.ensures.legal c.finish-finished.ensures.trails in
    ran.enough

pub hand_out-requires-clause-forked : goal.hand_out-requires-clause-forked
hand_out-requires-clause-forked g c =
    let ran = has_ran g.D.Disk.view (g.D.Disk.view c.args.first.value) c.args.trace.now.lines.items c.args.opened c.ends.ensures.ran c.requires.trace c.requires.session g.J.Whose.book c.requires.book g.J.Whose.places c.requires.places
    c.serve-trails.result.trails.items c.serve-trails.result.last c.finish-finished.result.closed.history.items
    (subst (λ (ls : List TraceLine). IsRanBy g.J.Whose.book.session g.J.Whose.places (plain_trace ls) c.serve-trails.result.trails.items c.serve-trails.result.last) c.requires.plan c.serve-trails.ensures.ran)
    c.finish-finished.ensures.legal c.finish-finished.ensures.trails in
    ran.forked

pub returns : goal.returns
returns g c =
    let view = g.D.Disk.view in
    let old = view c.args.first.value in
    let lines = c.args.trace.now.lines.items in
    let book = g.J.Whose.book in
    let ground = g.J.Opening.ground in
    let last = c.serve-trails.result.last in
    let settled = c.finish-finished.result.settled in
    let f = c.finish-finished.result.closed in
    let said = c.finish-finished.ensures in
    let begun = c.in-Ok-begin.ensures in
    let h = c.hand_out.ensures in
    let e = c.hand_out.result in
    let ran = has_ran g.D.Disk.view (g.D.Disk.view c.args.first.value) c.args.trace.now.lines.items c.args.opened c.ends.ensures.ran c.requires.trace c.requires.session g.J.Whose.book c.requires.book g.J.Whose.places c.requires.places
    c.serve-trails.result.trails.items c.serve-trails.result.last c.finish-finished.result.closed.history.items
    (subst (λ (ls : List TraceLine). IsRanBy g.J.Whose.book.session g.J.Whose.places (plain_trace ls) c.serve-trails.result.trails.items c.serve-trails.result.last) c.requires.plan c.serve-trails.ensures.ran)
    c.finish-finished.ensures.legal c.finish-finished.ensures.trails in
    let replayed : c.args.order ≡ orders.Lines → IsReplayedTo book.session (plain_trace lines) f.history.items last =
    (λ is. has_replayed view old lines c.args.opened c.replays.ensures c.requires.session book c.requires.book c.serve-trails.result.trails.items last f.history.items
    (subst (λ (ls : List TraceLine). IsReplayedBy book.session (plain_trace ls) c.serve-trails.result.trails.items) c.requires.plan (c.serve-trails.ensures.replayed is))
    said.legal said.trails ran) in
    let start : SameButBytes f.start book.session.start × IsBare f.start = subst (λ (s : Start). SameButBytes s book.session.start × IsBare s) (sym said.start) begun.start in
    subst (λ (r : RunEnd g.row.D.Denot). IsRunOver view old lines c.args.order r)
    (λ i. record e { history = sym h.history i; syncs = sym h.syncs i; list = sym h.list i; start = sym h.start i; disk = sym h.disk i })
    (over_run view old lines (places_of (plain_trace lines)) c.args.opened c.requires.session book c.requires.book ground c.requires.ground
    (record e { history = f.history; syncs = f.syncs; list = f.list; start = f.start; disk = f.disk }) last settled
    (subst (λ d. e.status ≡ status_of (view d).faults last settled) h.disk h.status) h.silent
    (ap (λ (l : Vec Record Global). l.items) said.list ∙ begun.list) start.0 start.1 said.closed
    (later_by view old lines (places_of (plain_trace lines)) c.args.opened c.requires.session book c.requires.book ground c.requires.ground g.J.Opening.tells c.requires.tells (view f.disk) f.history.items ground.ready f.syncs.items said.gone_on said.closed)
    (c.graph.ensures.after_records, c.edges.ensures.versions, c.edges.ensures.inputs) ran c.args.order replayed said.refused said.settled said.healthy)

pub begin-requires-clause-gone_on : goal.begin-requires-clause-gone_on
begin-requires-clause-gone_on g c =
    gone_on_so g.D.Disk.view (g.D.Disk.view c.args.first.value) c.args.trace.now.lines.items (places_of (plain_trace c.args.trace.now.lines.items)) c.args.opened c.requires.session g.J.Whose.book c.requires.book g.J.Opening.ground
    c.requires.ground g.J.Opening.tells c.requires.tells
