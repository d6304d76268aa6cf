-- What holds of every run of a drawn trace.
use Rattle.std.specs.Prelude.{ℕ, ◌+◌, ◌≡◌, ◌≤◌, List, []}
use Rattle.pass_entry.specs.declared.entry.Entry.{Entry}
use Rattle.pass_plain.specs.declared.start.Start.{Start}
use Rattle.pass_plain.specs.Sessions.{Session}
use Rattle.pass_plain.specs.Runs.{IsRun}
use Rattle.pass_plain.specs.Outlines.{SameButBytes}
use Rattle.pass_replay.specs.Ends.{NoneOpen, IsStuck}
use Rattle.pass_drawn.specs.Runs.{drawn_trace}
use Rattle.pass_trace.specs.TraceLines.{session_of_trace}
use Rattle.pass_gen.specs.Generated.{generated}
use Rattle.pass_drawn.specs.Texts.{answered, writes, bytes_written, writes_drawn, bytes_drawn, drawn_text, run_text}

-- where a process is open, one can move
abbrev pub NeverStuckLaw : Type 0
NeverStuckLaw = (session : Session) (number lines : ℕ) (history : List Entry) → 1 ≤ session.objects → IsRun session (drawn_trace number lines) history
    → ¬ (IsStuck session (drawn_trace number lines) history)

-- at the end each line is answered, and the exits of the eight processes
abbrev pub AnsweredLaw : Type 0
AnsweredLaw = (session : Session) (number lines : ℕ) (history : List Entry) → 15 ≤ lines → 1 ≤ session.objects → IsRun session (drawn_trace number lines) history
    → NoneOpen session (drawn_trace number lines) history → answered history ≡ lines + 8

-- From `full`, which is the start but for the bytes of its files, and has neither files nor objects of programs, the history is a
-- run of the trace that has ended.
pub record IsFreshRun (start : Start) (number lines : ℕ) (history : List Entry) (full : Start) : Type 0 where
  pub same : SameButBytes start full
  pub no_files : start.files.items ≡ []
  pub no_apps : start.apps.items ≡ []
  pub run : IsRun (session_of_trace full (generated number lines)) (drawn_trace number lines) history
  pub closed : NoneOpen (session_of_trace full (generated number lines)) (drawn_trace number lines) history

-- there each write of a line goes through, with all its bytes
abbrev pub WroteLaw : Type 0
WroteLaw = (start full : Start) (number lines : ℕ) (history : List Entry) → IsFreshRun start number lines history full
    → (writes history ≡ writes_drawn number lines) × (bytes_written history ≡ bytes_drawn number lines)

-- so the text of such a run is known by the two numbers
abbrev pub TextLaw : Type 0
TextLaw = (start full : Start) (number lines : ℕ) (history : List Entry) → 15 ≤ lines → IsFreshRun start number lines history full
    → run_text number lines history ≡ drawn_text number lines (lines + 8) (writes_drawn number lines) (bytes_drawn number lines)
