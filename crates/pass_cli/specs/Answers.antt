-- What the program answers, and what it writes. This project's own rule.
use Rattle.std.specs.Prelude.{ℕ, ◌≡◌, ◌≢◌, ◌⊎◌, ◌↔◌, ◌<◌, Bool, true, false, IsTrue, List, [], ◌++◌, Some, None, Result, Ok, Err}
use Rattle.pass_entry.specs.declared.entry.Entry.{Entry}
use Rattle.pass_entry.specs.declared.entry.Synced.{Synced}
use Rattle.pass_entry.specs.declared.record.Record.{Record}
use Rattle.pass_outside.specs.Faults.{HasRisen}
use Rattle.pass_outside.specs.Moments.{Moment}
use Rattle.pass_plain.specs.declared.start.Start.{Start}
use Rattle.pass_recover.specs.declared.fault.OpenFault.{OpenFault}
use Rattle.pass_trace.specs.declared.trace.Trace.{Trace}
use Rattle.pass_trace.specs.declared.trace.TraceReason.{TraceReason}
use Rattle.pass_trace.specs.declared.limits.Scale.{Scale}
use Rattle.pass_trace.specs.TraceLines.{objects_of}
use Rattle.pass_trace.specs.Traces.{trace_of, IsTraceText, IsFirstFault}
use Rattle.pass_run.specs.declared.ending.RunEnd.{RunEnd}
use Rattle.pass_status.specs.declared.status.Status.{Status}
use Rattle.pass_status.specs.declared.status.Status.TheVariants as status
use Rattle.pass_status.specs.Reading.{StopsInTime}
use Rattle.pass_trace.specs.Lines.{is_too_long}
use Rattle.pass_run.specs.Orders.{HasReplayed}
use Rattle.pass_run.specs.Stored.{session_fault, IsEnd, IsUnopened, IsLeftAlone, LeavesRead, HasBegun, IsRefusedOpening, IsHeldBack, IsOverStore, HasEnded}
use Rattle.pass_status.specs.Writing.{IsPartOfText}
use Rattle.pass_ask.specs.Answers.{IsNoDiskFault, HasFailed, SinkSeen, text_with}
use Rattle.pass_cli.specs.declared.main_call.Ended.{Ended}

-- the property holds of some bytes: those that the source had left, where it tells them
abbrev pub OfBytes : Bool → List ℕ → (List ℕ → Type 0) → Type 0
OfBytes tells left Holds = (bytes : List ℕ) × (IsTrue tells → bytes ≡ left) × Holds bytes

-- of what a source had left a text was read, and no more than its rest is left: nothing, unless the text is too long for a
-- trace; and but for its last piece the text isn't
pub record IsReadInTime (scale : Scale) (left rest : List ℕ) : Type 0 where
  pub text : List ℕ
  pub parts : left ≡ text ++ rest
  pub whole : is_too_long scale text ≡ false → rest ≡ []
  pub stops : StopsInTime scale text

-- the source didn't fail, and its bytes are the text of a trace of this scale
pub record IsTraced (scale : Scale) (bytes : List ℕ) (before after : ℕ) : Type 0 where
  pub unfailed : ¬ HasRisen before after
  pub text : IsTraceText scale bytes

-- by which status the source and its bytes are refused before a trace is run
abbrev pub IsRefusal : Scale → List ℕ → ℕ → ℕ → Status → Type 0
IsRefusal scale bytes before after status.ReadFault = HasRisen before after
IsRefusal scale bytes before after (status.BadTrace line reason) = (¬ HasRisen before after) × IsFirstFault scale bytes line reason
IsRefusal scale bytes before after status.NoMemory = Unit {0}
IsRefusal scale bytes before after _ = ⊥

-- what is read: the trace of the bytes, or a status that refuses them
abbrev pub IsTraceRead : Scale → List ℕ → ℕ → ℕ → Result Trace Status → Type 0
IsTraceRead scale bytes before after (Ok trace) = IsTraced scale bytes before after × (trace.lines.items ≡ trace_of bytes)
IsTraceRead scale bytes before after (Err refusal) = IsRefusal scale bytes before after refusal

-- the statuses with which a run may end
abbrev pub ends_run : Status → Bool
ends_run status.ReadFault = true
ends_run (status.BadTrace line reason) = true
ends_run (status.DiskFault opened now) = true
ends_run (status.BadStore fault) = true
ends_run status.Stuck = true
ends_run status.Done = true
ends_run _ = false

-- What a run is judged by: the bytes of the source, its count of faults before and after, the bytes of the log area, and the
-- disk before and after. The source's faults come first, then the trace's, the device's faults, and what the log has; and then the
-- trace is run.
pub record IsRunJudged (scale : Scale) (bytes : List ℕ) (before after : ℕ) (log : List ℕ) (old new : Moment) (judged : Status) : Type 0 where
  pub read_fault : judged ≡ status.ReadFault ↔ HasRisen before after
  pub bad_trace : (line : ℕ) (reason : TraceReason) → judged ≡ status.BadTrace line reason ↔ ((¬ HasRisen before after) × IsFirstFault scale bytes line reason)
  pub disk_fault : (opened now : ℕ) → judged ≡ status.DiskFault opened now → IsTraced scale bytes before after × HasFailed old new opened now
  -- and wherever the count rose
  pub unhidden : IsTraced scale bytes before after → old.faults < new.faults → judged ≡ status.DiskFault old.faults new.faults
  pub bad_store : (fault : OpenFault) → judged ≡ status.BadStore fault ↔ (IsTraced scale bytes before after × IsNoDiskFault judged × (session_fault log ≡ Some fault))
  -- Done and Stuck; which of them is told by what was recorded
  pub ended : IsEnd judged ↔ (IsTraced scale bytes before after × IsNoDiskFault judged × (session_fault log ≡ None))
  pub no_other : ends_run judged ≡ true

-- what a run hands out: the records and the start of the store that it opened, its history, and the syncs of the store
pub record Outcome : Type 0 where
  pub list : List Record
  pub start : Start
  pub history : List Entry
  pub syncs : List Synced

abbrev pub outcome_of : {D : Type 0} → Ended D → Outcome
outcome_of e = record { list = e.list.items; start = e.start; history = e.history.items; syncs = e.syncs.items }

abbrev pub outcome_of_run : {D : Type 0} → RunEnd D → Outcome
outcome_of_run e = record { list = e.list.items; start = e.start; history = e.history.items; syncs = e.syncs.items }

-- the store wasn't opened, and nothing was recorded
abbrev pub IsNothing : Outcome → Type 0
IsNothing out = IsUnopened out.list out.start out.history out.syncs

-- the store was refused with this status, and not written to
abbrev pub IsRefused : Moment → Moment → Status → Outcome → Type 0
IsRefused old new judged out = IsRefusedOpening old new judged out.list out.start out.history out.syncs

-- no entry was made, and the session's ceiling was to be raised
abbrev pub IsHeld : Moment → Moment → List ℕ → Status → Outcome → Type 0
IsHeld old new bytes judged out = IsHeldBack old new (trace_of bytes) judged out.list out.start out.history out.syncs

-- nothing was written: a crash leaves what it might have left before, and what was read, since both syncs of the store's opening
pub record IsUnwritten (old new : Moment) : Type 0 where
  pub alone : IsLeftAlone old new
  pub since : LeavesRead old new

-- nothing is handed out, and nothing was written but the session's ceiling, if that
abbrev pub IsUnrecorded : Moment → Moment → List ℕ → Outcome → Type 0
IsUnrecorded old new bytes out = IsNothing out × (IsUnwritten old new ⊎ HasBegun old new (objects_of (trace_of bytes)))

-- the store was opened, and the history is a run of the trace of the bytes, of which a crash leaves a beginning
abbrev pub IsRecorded : Moment → Moment → List ℕ → Outcome → Type 0
IsRecorded old new bytes out = IsOverStore old.calls old new (trace_of bytes) out.list out.start out.history out.syncs

-- nothing was recorded, or the history is a beginning of the replay of the trace of the bytes, and the whole one where the run has come to its end
abbrev pub IsReplayed : Moment → List ℕ → Outcome → Status → Type 0
IsReplayed old bytes out ended = HasReplayed old (trace_of bytes) out.list out.start out.history out.syncs ended

-- the trace was run until no process could move, all of it is kept, and the report is that of the history
abbrev pub IsWhole : Moment → Moment → List ℕ → Outcome → Status → List ℕ → Type 0
IsWhole old new bytes out judged report = HasEnded old.calls old new (trace_of bytes) out.list out.start out.history out.syncs judged report

-- the statuses that come before a store is open
abbrev pub comes_before : Status → Bool
comes_before status.Done = false
comes_before status.Stuck = false
comes_before (status.DiskFault opened now) = false
comes_before _ = true

-- How a run is judged, and what was recorded, with the report of Done and Stuck. A run that is refused before its store is
-- opened leaves the disk untouched.
pub record HasRun {D : Type 0} (view : D → Moment) (scale : Scale) (bytes : List ℕ) (before after : ℕ) (old new : D) (out : Outcome) (judged : Status) (report : List ℕ) : Type 0 where
  -- the bytes of the log area, where the disk tells them
  pub log : List ℕ
  pub logged : IsTrue (view old).tells → log ≡ (view old).seen.log
  pub by : IsRunJudged scale bytes before after log (view old) (view new) judged
  pub untouched : ¬ IsTraced scale bytes before after → new ≡ old
  pub refused : comes_before judged ≡ true → IsRefused (view old) (view new) judged out
  pub recorded : IsRefused (view old) (view new) judged out ⊎ (IsHeld (view old) (view new) bytes judged out ⊎ IsRecorded (view old) (view new) bytes out)
  pub whole : IsEnd judged → IsWhole (view old) (view new) bytes out judged report

-- what a call saw of its source: whether it tells its bytes, the bytes that it had left, and its count of faults before and after
pub record SourceSeen : Type 0 where
  pub tells : Bool
  pub left : List ℕ
  pub before : ℕ
  pub after : ℕ

-- What stands behind the answer of a run, other than want of memory: the bytes that the source had left, where it tells
-- them; the status that was judged by them, which is the answer unless the sink failed; and its text, which the sink took
pub record IsAnswer {D : Type 0} (view : D → Moment) (scale : Scale) (source : SourceSeen) (sink : SinkSeen) (old new : D) (out : Outcome) (answered : Status) : Type 0 where
  pub bytes : List ℕ
  pub told : IsTrue source.tells → bytes ≡ source.left
  pub judged : Status
  pub report : List ℕ
  pub by : HasRun view scale bytes source.before source.after old new out judged report
  pub stands : (answered ≡ judged) ⊎ (answered ≡ status.WriteFault)
  pub whole : answered ≢ status.WriteFault → IsTrue sink.tells → sink.after ≡ sink.before ++ text_with judged report
  pub part : answered ≡ status.WriteFault → IsTrue sink.tells → IsPartOfText (text_with judged report) sink.before sink.after
