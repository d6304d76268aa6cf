use Rattle.std.proofs.Common.{◌≤◌, ℕ, List, [], take}
use Rattle.pass_entry.specs.declared.entry.Entry.{Entry}
use Rattle.pass_plain.specs.Sessions.{Session}
use Rattle.pass_plain.specs.Runs.{IsRun}
use Rattle.pass_trace.specs.TraceLines.{plain_trace}
use Rattle.pass_report.specs.CallTables.{IsCallTable}
use Rattle.pass_report.specs.Standings.{lines_in, HasLooked}
use Rattle.pass_report.proofs.standing.Standing.look.Given as goal

abbrev pub invariant-loop-line : goal.invariant-loop-line
invariant-loop-line l = record {
  few : (process : ℕ) → lines_in l.self process ≤ l.line-index;
  looked : (session : Session) (history : List Entry) → IsRun session (plain_trace l.lines) history → IsCallTable history l.calls
      → HasLooked session (plain_trace l.lines) history [] l.initial.self
      → HasLooked session (plain_trace l.lines) history (take l.line-index (plain_trace l.lines)) l.self;
}
