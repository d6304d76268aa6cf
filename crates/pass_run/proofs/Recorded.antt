-- A history that a closed store hands out, over the records that it opened with.
use Rattle.std.proofs.Common.{◌≤◌, ℕ, List, ap, sym, ◌∙◌, subst}
use Rattle.std.specs.Prelude.{slice_get}
use Rattle.pass_entry.specs.declared.entry.Entry.{Entry}
use Rattle.pass_entry.specs.declared.entry.Synced.{Synced}
use Rattle.pass_entry.specs.declared.record.Record.{Record}
use Rattle.pass_entry.proofs.Places.{mapped}
use Rattle.pass_graph.specs.Lawful.{GraphLaw, VersionRecordLaw, InputRecordLaw}
use Rattle.pass_graph.specs.Openings.{Continues}
use Rattle.pass_keep.specs.Kept.{Story, IsLeft, bound_of}
use Rattle.pass_outside.specs.Areas.{Image}
use Rattle.pass_outside.specs.Moments.{Moment}
use Rattle.pass_plain.specs.declared.start.Start.{Start}
use Rattle.pass_plain.specs.Runs.{IsRun}
use Rattle.pass_plain.specs.Sound.{IsSound}
use Rattle.pass_store.specs.Closings.{IsClosed, IsSettled}
use Rattle.pass_store.proofs.Closing.{files_kept}
use Rattle.pass_trace.specs.TraceLines.{plain_trace, session_of_trace}
use Rattle.pass_trace.specs.declared.trace.TraceLine.{TraceLine}
use Rattle.pass_vault.specs.Vaulted.{noted_of}
use Rattle.pass_vault.specs.Vaults.{handed_of}
use Rattle.pass_vault.specs.declared.vault.Receipt.{Receipt}
use Rattle.pass_run.specs.Stored.{HasFirst, IsStored, IsSettledRun, HasRecorded}

first_of : (s : Story) (least : ℕ) (bound : ℕ → ℕ) (c : Image) → IsLeft s least bound c → HasFirst s least c
first_of s least bound c left = record { count = left.count; enough = left.enough; within = left.within; records = left.records; older = left.older }

-- what crashes leave of it
pub is_stored : (s : Story) (ready : ℕ) (m : Moment) (syncs : List Synced) → IsClosed s ready m syncs → IsStored s m syncs
is_stored s ready m syncs closed = record {
  begun = closed.begun;
  ready = ready;
  early = closed.early;
  late = λ i y at.
      let (x, there, is) = mapped handed_of closed.all i y (ap (λ (l : List Synced). slice_get l i) (sym closed.handed) ∙ at) in
      subst (λ (z : Synced). ready ≤ z.calls) is (closed.late i x there);
  opened = λ told c left. first_of s 0 (λ number. 0) c (closed.opened told c left);
  timed = closed.timed;
  since = λ told i y at c left.
      let (x, there, is) = mapped handed_of closed.all i y (ap (λ (l : List Synced). slice_get l i) (sym closed.handed) ∙ at) in
      subst (λ (z : Synced). HasFirst s z.entries c) is (first_of s x.entries (bound_of (noted_of x)) c (closed.since told i x there c (subst (λ (z : Synced). m.left_since z.calls c) (sym is) left)));
  synced = files_kept s ready m syncs closed;
}

pub is_settled : (s : Story) (m : Moment) (syncs : List Synced) (r : Receipt) → IsSettled s m syncs r → IsSettledRun s m syncs
is_settled s m syncs r settled = record {
  front = settled.front;
  last = record { calls = r.calls; entries = r.entries };
  are = settled.are;
  all = settled.whole;
  records = settled.records;
  matched = settled.matched;
  held = settled.held;
  older = settled.older;
}

-- a run of the trace, and its graph
pub has_recorded : (list : List Record) (start : Start) (lines : List TraceLine) (history : List Entry) → IsSound (session_of_trace start lines) → Continues list (session_of_trace start lines)
    → GraphLaw × VersionRecordLaw × InputRecordLaw → IsRun (session_of_trace start lines) (plain_trace lines) history → HasRecorded list start lines history
has_recorded list start lines history sound continues (law, versions, inputs) run = record {
  sound = sound;
  run = run;
  graph = law list (session_of_trace start lines) history continues.opens run.legal;
  exact = record {
    frozen = versions (session_of_trace start lines) history run.legal;
    linked = inputs (session_of_trace start lines) history run.legal;
  };
}
