-- How the run of a trace ends. This project's own rule.
use Rattle.std.specs.Prelude.{ℕ, ◌≡◌, List, []}
use Rattle.pass_entry.specs.declared.entry.Entry.{Entry}
use Rattle.pass_plain.specs.declared.start.Start.{Start}
use Rattle.pass_plain.specs.Sessions.{Session}
use Rattle.pass_plain.specs.Traces.{Line}
use Rattle.pass_trace.specs.declared.trace.TraceLine.{TraceLine}
use Rattle.pass_trace.specs.declared.limits.Scale.TheVariants.{Long}
use Rattle.pass_trace.specs.Traces.{trace_of, IsTraceText}
use Rattle.pass_replay.specs.Ends.{NoneOpen, IsStuck}
use Rattle.pass_status.specs.declared.status.Status.{Status}
use Rattle.pass_status.specs.declared.status.Status.TheVariants as status

-- the lines are the trace of some text
abbrev pub IsTrace : List TraceLine → Type 0
IsTrace lines = (bytes : List ℕ) × IsTraceText Long bytes × (lines ≡ trace_of bytes)

-- nothing was opened
pub record IsEmptyStart (start : Start) : Type 0 where
  pub ceiling : start.ceiling ≡ 0
  pub files : start.files.items ≡ []
  pub apps : start.apps.items ≡ []

-- with which status a run of the whole trace ends: done where no process is open, else stuck, and never elsewise
abbrev pub EndsAs : Session → List Line → List Entry → Status → Type 0
EndsAs session trace history status.Done = NoneOpen session trace history
EndsAs session trace history status.Stuck = IsStuck session trace history
EndsAs session trace history _ = ⊥
