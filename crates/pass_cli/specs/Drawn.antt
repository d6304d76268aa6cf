-- What the run of a drawn trace answers. This project's own rule.
use Rattle.std.specs.Prelude.{ℕ, ◌+◌, ◌≡◌, ◌≢◌, ◌≤◌, ◌⊎◌, ◌↔◌, Bool, true, false, IsTrue, None, List, [], ◌++◌}
use Rattle.pass_entry.specs.declared.entry.Entry.{Entry}
use Rattle.pass_plain.specs.declared.start.Start.{Start}
use Rattle.pass_plain.specs.Runs.{IsRun}
use Rattle.pass_plain.specs.Sessions.{Session}
use Rattle.pass_gen.specs.Generated.{generated}
use Rattle.pass_outside.specs.Moments.{Moment}
use Rattle.pass_status.specs.declared.status.Status.{Status}
use Rattle.pass_status.specs.declared.status.Status.TheVariants as status
use Rattle.pass_run.specs.Stored.{session_fault}
use Rattle.pass_status.specs.Writing.{IsPartOfText}
use Rattle.pass_trace.specs.declared.limits.Scale.TheVariants.{Long}
use Rattle.pass_trace.specs.Texts.{text_of}
use Rattle.pass_drawn.specs.Lawful.{IsFreshRun}
use Rattle.pass_drawn.specs.Runs.{drawn_trace}
use Rattle.pass_drawn.specs.Texts.{drawn_text, run_text, writes_drawn, bytes_drawn}
use Rattle.pass_ask.specs.Answers.{IsNoDiskFault, SinkSeen, text_with}
use Rattle.pass_cli.specs.Answers.{Outcome, HasRun, IsTraced}

-- the text of the trace that a number draws
abbrev pub drawn_bytes : ℕ → ℕ → List ℕ
drawn_bytes number lines = text_of (generated number lines)

-- the text tells what a history of the trace came to, and on a store without files and objects of programs it is known by the two numbers
pub record IsTold (number lines : ℕ) (history : List Entry) (text : List ℕ) : Type 0 where
  pub counted : (session : Session) → IsRun session (drawn_trace number lines) history → text ≡ run_text number lines history
  pub fresh : (start full : Start) → 15 ≤ lines → IsFreshRun start number lines history full → text ≡ drawn_text number lines (lines + 8) (writes_drawn number lines) (bytes_drawn number lines)

-- the statuses with which such a run may end: it is done, or the disk or its store has a fault
abbrev pub ends_drawn : Status → Bool
ends_drawn status.Done = true
ends_drawn (status.DiskFault opened now) = true
ends_drawn (status.BadStore fault) = true
ends_drawn _ = false

-- How the run of a drawn trace is judged: as that of its text, which is the text of a trace, from a source that cannot fail. It never
-- gets stuck. Its text is counted in its history; on a store without files and objects of programs it is known by the two numbers.
pub record HasDrawn {D : Type 0} (view : D → Moment) (number lines : ℕ) (old new : D) (out : Outcome) (judged : Status) (text : List ℕ) : Type 0 where
  pub report : List ℕ
  pub by : HasRun view Long (drawn_bytes number lines) 0 0 old new out judged report
  pub traced : IsTraced Long (drawn_bytes number lines) 0 0
  pub ends : ends_drawn judged ≡ true
  pub done : judged ≡ status.Done ↔ (IsNoDiskFault judged × (session_fault by.log ≡ None))
  pub told : judged ≡ status.Done → text ≡ run_text number lines out.history
  pub fresh : judged ≡ status.Done → out.start.files.items ≡ [] → out.start.apps.items ≡ [] → text ≡ drawn_text number lines (lines + 8) (writes_drawn number lines) (bytes_drawn number lines)

-- what stands behind its answer, other than want of memory
pub record IsGenAnswer {D : Type 0} (view : D → Moment) (number lines : ℕ) (sink : SinkSeen) (old new : D) (out : Outcome) (answered : Status) : Type 0 where
  pub judged : Status
  pub text : List ℕ
  pub by : HasDrawn view number lines old new out judged text
  pub stands : (answered ≡ judged) ⊎ (answered ≡ status.WriteFault)
  pub whole : answered ≢ status.WriteFault → IsTrue sink.tells → sink.after ≡ sink.before ++ text_with judged text
  pub part : answered ≡ status.WriteFault → IsTrue sink.tells → IsPartOfText (text_with judged text) sink.before sink.after
