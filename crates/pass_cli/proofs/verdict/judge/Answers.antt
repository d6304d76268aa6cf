use Rattle.std.proofs.Common.{◌≡◌, ◌∙◌, sym, subst, List, inl, inr, ⊎_elim}
use Rattle.pass_trace.specs.TraceLines.{objects_of}
use Rattle.pass_trace.specs.declared.trace.TraceLine.{TraceLine}
use Rattle.pass_status.specs.declared.status.Status.{Status}
use Rattle.pass_status.specs.declared.status.Status.TheVariants as status
use Rattle.pass_run.specs.Ends.{IsTrace}
use Rattle.pass_run.specs.Orders.{HasReplayed}
use Rattle.pass_run.specs.Stored.{HasBegun, IsHeldBack, IsOverStore}
use Rattle.pass_run.proofs.Moved.{none_backed}
use Rattle.pass_cli.specs.Answers.{IsRefusal, IsRefused, HasRun, outcome_of_run}
use Rattle.pass_cli.proofs.Judging.{ran_run, refusal_run, no_write, still_unwritten}
use Rattle.pass_cli.proofs.verdict.judge.Goals as goal
use Rattle.pass_entry.proofs.Variants.{err_inside}

pub run_trace-requires-clause-trace : goal.run_trace-requires-clause-trace
run_trace-requires-clause-trace g c = λ _ _.
    let (bytes, told, (traced, same)) = c.in-Ok.ensures.read in
    let trace : IsTrace c.in-Ok.trace.lines.items = (bytes, c.scales.ensures c.args.scale bytes traced.text, same) in
    trace

pub returns-in-Ok-clause-judged : goal.returns-in-Ok-clause-judged
returns-in-Ok-clause-judged g c = λ known.
    let (bytes, told, (traced, same)) = c.in-Ok.ensures.read in
    let e = c.run_trace.ensures in
    let r = c.run_trace.result in (
      bytes,
      told,
      ran_run c.args.scale g.D.Disk.view bytes _ _ c.args.disk r.disk c.in-Ok.trace.lines.items (outcome_of_run r) r.status r.report.items traced same
          (record {
            disk_fault = λ opened now is. let (before, after, risen) = e.disk_fault opened now is in record { before = before; after = after; risen = risen };
            no_fault = e.no_fault known;
            by_log = e.judged known;
            bad_store = e.bad_store;
            recorded = e.recorded;
            ended = e.ended;
          }),
    )

pub returns-in-Ok-clause-recorded : goal.returns-in-Ok-clause-recorded
returns-in-Ok-clause-recorded g c =
    let (bytes, told, (traced, same)) = c.in-Ok.ensures.read in
    let r = c.run_trace.result in
    let old = g.D.Disk.view c.args.disk in
    let new = g.D.Disk.view r.disk in (
      bytes,
      told,
      ⊎_elim (λ (refused : IsRefused old new r.status (outcome_of_run r)). inl (refused.nothing, inl (record { alone = refused.alone; since = refused.since })))
          (⊎_elim (λ (held : IsHeldBack old new c.in-Ok.trace.lines.items r.status r.list.items r.start r.history.items r.syncs.items).
          inl (held.nothing, inr (subst (λ (ls : List TraceLine). HasBegun old new (objects_of ls)) same held.begun)))
          (λ (over : IsOverStore old.calls old new c.in-Ok.trace.lines.items r.list.items r.start r.history.items r.syncs.items).
          inr (subst (λ (ls : List TraceLine). IsOverStore old.calls old new ls r.list.items r.start r.history.items r.syncs.items) same over)))
          c.run_trace.ensures.recorded,
    )

pub returns-in-Ok-clause-no_write : goal.returns-in-Ok-clause-no_write
returns-in-Ok-clause-no_write g c = λ is.
    let (bytes, told, run) = returns-in-Ok-clause-judged g c (λ starved. let z : status.WriteFault ≡ status.NoMemory = sym is ∙ starved in cc) in
    no_write c.run_trace.result.status run.by.no_other is

pub returns-in-Err-clause-judged : goal.returns-in-Err-clause-judged
returns-in-Err-clause-judged g c = λ known.
    let (bytes, told, refusal) = c.in-Err.ensures.read in
    let r = c.unopened.result in
    let e = c.unopened.ensures in
    let faults = g.S.Source.fault_count in (
      bytes,
      told,
      subst (λ d. HasRun g.D.Disk.view c.args.scale bytes (faults c.args.source.now) (faults c.read_trace.new.source) c.args.disk d (outcome_of_run r) r.status r.report.items) (sym e.disk)
          (subst (λ (s : Status). HasRun g.D.Disk.view c.args.scale bytes (faults c.args.source.now) (faults c.read_trace.new.source) c.args.disk c.args.disk (outcome_of_run r) s r.report.items) (sym e.status)
          (refusal_run c.args.scale g.D.Disk.view bytes _ _ c.args.disk (outcome_of_run r) c.in-Err.status r.report.items (λ is. known (e.status ∙ is)) refusal
          (record { no_list = e.list; no_start = e.start; no_history = e.history; no_syncs = e.syncs }))),
    )

pub returns-in-Err-clause-recorded : goal.returns-in-Err-clause-recorded
returns-in-Err-clause-recorded g c =
    let (bytes, told, refusal) = c.in-Err.ensures.read in
    let e = c.unopened.ensures in
    let view = g.D.Disk.view in (
      bytes,
      told,
      inl (
        record { no_list = e.list; no_start = e.start; no_history = e.history; no_syncs = e.syncs },
        inl (still_unwritten view c.args.disk c.unopened.result.disk e.disk),
      ),
    )

pub returns-in-Err-clause-no_write : goal.returns-in-Err-clause-no_write
returns-in-Err-clause-no_write g c = λ is.
    let (bytes, told, refusal) = c.in-Err.ensures.read in
    subst (λ (s : Status). IsRefusal c.args.scale bytes (g.S.Source.fault_count c.args.source.now) (g.S.Source.fault_count c.read_trace.new.source) s) (sym c.unopened.ensures.status ∙ is) refusal

pub returns-in-Err-clause-stops : goal.returns-in-Err-clause-stops
returns-in-Err-clause-stops g c = λ t known. c.in-Err.ensures.stops t (λ is. known (c.unopened.ensures.status ∙ err_inside _ _ is))

pub returns-in-Err-clause-backed : goal.returns-in-Err-clause-backed
returns-in-Err-clause-backed g c = none_backed c.unopened.result.history.items c.unopened.result.syncs.items c.unopened.ensures.history

pub returns-in-Ok-clause-replayed : goal.returns-in-Ok-clause-replayed
returns-in-Ok-clause-replayed g c = λ is.
    let (bytes, told, (traced, same)) = c.in-Ok.ensures.read in
    let r = c.run_trace.result in (
      bytes,
      told,
      subst (λ (ls : List TraceLine). HasReplayed (g.D.Disk.view c.args.disk) ls r.list.items r.start r.history.items r.syncs.items r.status) same (c.run_trace.ensures.replayed is),
    )

pub returns-in-Err-clause-replayed : goal.returns-in-Err-clause-replayed
returns-in-Err-clause-replayed g c = λ is.
    let (bytes, told, refusal) = c.in-Err.ensures.read in
    let e = c.unopened.ensures in
    (bytes, told, inl (record { no_list = e.list; no_start = e.start; no_history = e.history; no_syncs = e.syncs }))
