use Rattle.std.proofs.Common.{◌≤◌, ◌∙◌, List, [], length, sym, ap, subst, arith}
use Rattle.pass_recover.specs.Faults.{LogHas}
use Rattle.pass_replay.specs.Lines.{AreLinesBehind}
use Rattle.pass_replay.specs.Needs.{places_of}
use Rattle.pass_trace.specs.TraceLines.{objects_of, plain_trace}
use Rattle.pass_trace.specs.declared.trace.TraceLine.{TraceLine}
use Rattle.pass_run.specs.Stored.{session_fault, IsStoreJudged, HasEnded}
use Rattle.pass_run.proofs.Fitting.{few_objects}
use Rattle.pass_run.proofs.Needed.{room}
use Rattle.pass_run.proofs.Ruled.{few_lines, ruled}
use Rattle.pass_run.specs.Orders.{HasReplayed}
use Rattle.pass_run.proofs.storing.run_unreported.Goals as goal

pub objects_of-objects-requires : goal.objects_of-objects-requires
objects_of-objects-requires g c = subst (λ (ls : List TraceLine). length ls ≤ 1000000) (sym c.deref.ensures.value) (few_lines c.args.trace.now.lines.items c.requires.trace)

pub places_of-entries-requires : goal.places_of-entries-requires
places_of-entries-requires g c = subst (λ (ls : List TraceLine). length ls ≤ 1000000) (sym c.deref-2.ensures.value) (few_lines c.args.trace.now.lines.items c.requires.trace)

pub of-requires-clause-ordered : goal.of-requires-clause-ordered
of-requires-clause-ordered g c = subst (λ (ls : List TraceLine). AreLinesBehind [] (plain_trace ls)) (sym c.deref-3.ensures.value) (ruled c.args.trace.now.lines.items c.requires.trace)

pub of-requires-clause-few : goal.of-requires-clause-few
of-requires-clause-few g c = subst (λ (ls : List TraceLine). length ls ≤ 1000000) (sym c.deref-3.ensures.value) (few_lines c.args.trace.now.lines.items c.requires.trace)

pub open-requires-clause-objects : goal.open-requires-clause-objects
open-requires-clause-objects g c =
    let few = few_objects c.traces.ensures c.args.trace.now.lines.items c.requires.trace in
    let same = c.objects_of-objects.ensures ∙ ap objects_of c.deref.ensures.value in
    (omega (arith, same), omega (arith, same, few))

pub open-requires-clause-entries : goal.open-requires-clause-entries
open-requires-clause-entries g c =
    let most = room c.traces.ensures c.args.trace.now.lines.items c.requires.trace in
    let same = c.places_of-entries.ensures ∙ ap (λ (ls : List TraceLine). places_of (plain_trace ls)) c.deref-2.ensures.value in
    (omega (arith, most.0, same), omega (arith, most.1, same))

pub returns-in-Ok-open-clause-judged : goal.returns-in-Ok-open-clause-judged
returns-in-Ok-open-clause-judged g c = λ some quiet.
    subst (λ d. LogHas (g.D.Disk.view d) (λ bytes. IsStoreJudged (session_fault bytes) c.run_opened.result.status)) c.of-first.ensures (c.run_opened.ensures.judged some quiet)

pub returns-in-Ok-open-clause-ended : goal.returns-in-Ok-open-clause-ended
returns-in-Ok-open-clause-ended g c =
    let view = g.D.Disk.view in
    let e = c.run_opened.result in
    let (text, ended) = c.run_opened.ensures.ended in
    (text, λ end. subst (λ d. HasEnded (view d).calls (view d) (view e.disk) c.args.trace.now.lines.items e.list.items e.start e.history.items e.syncs.items e.status text) c.of-first.ensures (ended end))

pub returns-clause-judged : goal.returns-clause-judged
returns-clause-judged g c = λ some quiet.
    subst (λ d. LogHas (g.D.Disk.view d) (λ bytes. IsStoreJudged (session_fault bytes) c.not_opened.result.status)) c.of-first.ensures (c.not_opened.ensures.judged some quiet)

pub returns-clause-ended : goal.returns-clause-ended
returns-clause-ended g c =
    let view = g.D.Disk.view in
    let e = c.not_opened.result in
    let (text, ended) = c.not_opened.ensures.ended in
    (text, λ end. subst (λ d. HasEnded (view d).calls (view d) (view e.disk) c.args.trace.now.lines.items e.list.items e.start e.history.items e.syncs.items e.status text) c.of-first.ensures (ended end))

pub returns-in-Ok-open-clause-replayed : goal.returns-in-Ok-open-clause-replayed
returns-in-Ok-open-clause-replayed g c = λ is.
    let e = c.run_opened.result in
    subst (λ d. HasReplayed (g.D.Disk.view d) c.args.trace.now.lines.items e.list.items e.start e.history.items e.syncs.items e.status) c.of-first.ensures (c.run_opened.ensures.replayed is)

pub returns-clause-replayed : goal.returns-clause-replayed
returns-clause-replayed g c = λ is.
    let e = c.not_opened.result in
    subst (λ d. HasReplayed (g.D.Disk.view d) c.args.trace.now.lines.items e.list.items e.start e.history.items e.syncs.items e.status) c.of-first.ensures (c.not_opened.ensures.replayed is)
