use Rattle.std.proofs.Common.{◌≡◌, ◌⊎◌, ◌∙◌, ℕ, List, inl, inr, refl, sym, ap, subst}
use Rattle.std.specs.Prelude.{Option, Some, None}
use Rattle.pass_trace.specs.declared.limits.Scale.TheVariants.{Usual}
use Rattle.pass_entry.specs.declared.entry.Entry.{Entry}
use Rattle.pass_trace.specs.TraceLines.{objects_of}
use Rattle.pass_trace.specs.Traces.{trace_of}
use Rattle.pass_trace.specs.declared.trace.TraceLine.{TraceLine}
use Rattle.pass_status.specs.declared.status.Status.{Status}
use Rattle.pass_status.specs.declared.status.Status.TheVariants as status
use Rattle.pass_status.specs.Statuses.{status_of_opening}
use Rattle.pass_outside.specs.Moments.{Moment}
use Rattle.pass_recover.specs.declared.fault.OpenFault.{OpenFault}
use Rattle.pass_recover.specs.Faults.{LogHas}
use Rattle.pass_run.specs.Stored.{session_fault, IsStoreJudged, IsOfDisk}
use Rattle.pass_cli.specs.Answers.{outcome_of_run, HasRun, IsUnrecorded, IsRecorded}
use Rattle.pass_cli.proofs.Judging.{ran_run}
use Rattle.pass_old.specs.declared.status.OldStatus.TheVariants as old_status
use Rattle.pass_old.specs.Runs.{IsKeptAs}
use Rattle.pass_old.proofs.Steps.{opening_writes, recorded_of, handed_out, lost_as, later_at, later_both, later_as}
use Rattle.pass_old.proofs.running.run_kept.Goals as goal

-- a run that no device call ended ends with Done or Stuck, or refuses the store
ended_writes : (m : Moment) (ended : Status) → ended ≡ status.WriteFault → LogHas m (λ bytes. IsStoreJudged (session_fault bytes) ended) → ⊥
ended_writes m ended is (bytes, read, judged) = by (session_fault bytes) judged
  where
    by : (o : Option OpenFault) → IsStoreJudged o ended → ⊥
    by (Some fault) same = let z : status.BadStore fault ≡ status.WriteFault = sym same ∙ is in cc
    by None (inl same) = let z : status.Done ≡ status.WriteFault = sym same ∙ is in cc
    by None (inr same) = let z : status.Stuck ≡ status.WriteFault = sym same ∙ is in cc

pub returns-in-Ok-clause-run : goal.returns-in-Ok-clause-run
returns-in-Ok-clause-run g c = λ bytes before after traced same.
    let view = g.D.Disk.view in
    let o = c.in-Ok.ensures in
    let e = c.run_trace-run.ensures in
    let r = c.run_trace-run.result in
    let n = c.end_run.ensures in
    let lines = c.args.trace.now.lines.items in
    let (last, kept, out) = n.kept in
    let end = c.end_run.result in
    inr (record {
      mid = c.recover.new.disk;
      list = c.in-Ok.opening.image.list.items;
      recovered_start = c.in-Ok.opening.start;
      recovered = record {
        logged = (o.image.0, o.image.1, (record { list = c.in-Ok.opening.image.list.items; end = c.in-Ok.opening.image.end }, o.image.2.holds, refl));
        told = o.start;
        bytes = o.bytes;
        sound = o.sound;
        reads = o.content;
        durable = o.synced;
        alone = record { crash = o.crash; adds = o.run };
        since = o.since;
        tells = o.tells;
        faults = o.no_fault (λ failed. absurd (cc failed));
        later = o.later (λ failed. absurd (cc failed));
      };
      out = outcome_of_run r;
      start_is = sym n.start;
      history_is = sym n.history;
      ended = r.status;
      run = λ known. subst (λ d. HasRun view Usual bytes before after c.recover.new.disk d (outcome_of_run r) r.status end.report.items) (sym n.disk)
          (subst (λ t. HasRun view Usual bytes before after c.recover.new.disk r.disk (outcome_of_run r) r.status t) (sym n.report)
          (ran_run Usual view bytes before after c.recover.new.disk r.disk lines (outcome_of_run r) r.status r.report.items traced same
          (record {
            disk_fault = λ opened now is. let (first, second, risen) = e.disk_fault opened now is in record { before = first; after = second; risen = risen };
            no_fault = e.no_fault known;
            by_log = e.judged known;
            bad_store = e.bad_store;
            recorded = e.recorded;
            ended = e.ended;
          })));
      recorded = subst (λ d. IsUnrecorded (view c.recover.new.disk) (view d) bytes (outcome_of_run r) ⊎ IsRecorded (view c.recover.new.disk) (view d) bytes (outcome_of_run r)) (sym n.disk)
          (recorded_of (view c.recover.new.disk) (view r.disk) bytes lines (outcome_of_run r) r.status same e.recorded);
      last = last;
      kept = subst (λ (h : List Entry). IsKeptAs g.A.Disk.view c.args.old last c.in-Ok.opening.image.list.items r.list.items c.in-Ok.opening.start (objects_of (trace_of bytes)) h r.status end.status) (sym n.history)
          (subst (λ (ls : List TraceLine). IsKeptAs g.A.Disk.view c.args.old last c.in-Ok.opening.image.list.items r.list.items c.in-Ok.opening.start (objects_of ls) r.history.items r.status end.status) same kept);
      archive = out;
    })

pub returns-in-Ok-clause-later : goal.returns-in-Ok-clause-later
returns-in-Ok-clause-later g c =
    let view = g.D.Disk.view in
    let o = c.in-Ok.ensures in
    later_both (view c.args.disk) (view c.recover.new.disk) (view c.end_run.result.disk) (record { tells = o.tells; faults = o.rises; calls = o.run.later })
    (later_as view c.recover.new.disk c.run_trace-run.result.disk c.end_run.result.disk c.end_run.ensures.disk c.run_trace-run.ensures.later)

pub returns-in-Ok-clause-no_write : goal.returns-in-Ok-clause-no_write
returns-in-Ok-clause-no_write g c =
    let e = c.run_trace-run.ensures in
    let r = c.run_trace-run.result in
    c.end_run.ensures.no_write (λ is. ended_writes (g.D.Disk.view c.recover.new.disk) r.status is
    (e.judged (λ starved. let z : status.NoMemory ≡ status.WriteFault = sym starved ∙ is in cc) (λ disk. subst IsOfDisk is disk)))

pub returns-in-Err-clause-run : goal.returns-in-Err-clause-run
returns-in-Err-clause-run g c = λ bytes before after traced same.
    let view = g.D.Disk.view in
    let o = c.in-Err.ensures in
    let u = c.unrun.ensures in
    let status_is = c.opening_status-status.ensures ∙ ap (λ (n : ℕ). status_of_opening n c.faults.result c.in-Err.fault) c.faults-faults.ensures
    ∙ ap (λ (n : ℕ). status_of_opening (view c.args.disk).faults n c.in-Err.fault) c.faults.ensures in
    inl (
      (u.history, u.start),
      lost_as view g.A.Disk.view c.args.disk c.recover.new.disk c.unrun.result.disk c.args.old c.unrun.result.archive c.in-Err.fault c.unrun.result.status u.disk
          (u.status ∙ ap (λ (s : Status). old_status.Same s) status_is) o.fault (record { crash = o.crash; adds = o.run }) o.since
          (handed_out g.A.Disk.view c.args.old c.unrun.result.archive (u.archive ∙ c.into_disk.ensures.disk) c.into_disk.ensures.leaves),
    )

pub returns-in-Err-clause-later : goal.returns-in-Err-clause-later
returns-in-Err-clause-later g c =
    let view = g.D.Disk.view in
    let o = c.in-Err.ensures in
    later_as view c.args.disk c.recover.new.disk c.unrun.result.disk c.unrun.ensures.disk (record { tells = o.tells; faults = o.rises; calls = o.run.later })

pub returns-in-Err-clause-archive_later : goal.returns-in-Err-clause-archive_later
returns-in-Err-clause-archive_later g c = later_at g.A.Disk.view c.args.old.disk c.unrun.result.archive (c.unrun.ensures.archive ∙ c.into_disk.ensures.disk)

pub returns-in-Err-clause-no_write : goal.returns-in-Err-clause-no_write
returns-in-Err-clause-no_write g c = λ is. opening_writes c.faults-faults.result c.faults.result c.in-Err.fault c.opening_status-status.result c.opening_status-status.ensures (sym c.unrun.ensures.status ∙ is)
