-- What a pass over a history has come to.
use Rattle.std.specs.Prelude.{ℕ, ◌≡◌, List, [], map, take, if◌then◌else◌}
use Rattle.pass_entry.specs.declared.entry.Entry.{Entry}
use Rattle.pass_entry.specs.declared.objects.Node.{Node}
use Rattle.pass_plain.specs.declared.start.Start.{Start}
use Rattle.pass_plain.specs.Sessions.{Session}
use Rattle.pass_report.specs.Reports.{call_line, is_answered}
use Rattle.pass_report.specs.Trails.{IsTrail}
use Rattle.pass_report.specs.CallTables.{IsCallTable}
use Rattle.pass_report.specs.Kinds.{AreKinds}
use Rattle.pass_report.specs.Callers.{AreProcesses}
use Rattle.pass_report.specs.Logging.{IsLogged}
use Rattle.pass_report.specs.declared.recorder.Recorder.{Recorder}

-- the line of an entry in a history, if it ends a call
abbrev pub entry_line : List Entry → List Node → Entry × Node → List ℕ
entry_line history nodes s = if is_answered history s.0 then call_line history nodes s.0 s.1 else []

-- after the first entries of a history all is as these make it, and those that end a call are marked
pub record HasPassed (start : Start) (session : Session) (history : List Entry) (place : ℕ) (r : Recorder) : Type 0 where
  pub trail : IsTrail start session (take place history) r.trail
  pub calls : IsCallTable (take place history) r.calls
  pub kinds : AreKinds start session (take place history) r.kinds
  pub processes : AreProcesses (take place history) r.processes
  pub logged : IsLogged start session (take place history) r.logged
  pub answered : r.answered.items ≡ map (is_answered history) (take place history)
