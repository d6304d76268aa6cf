use Rattle.pass_plain.specs.Sessions.{Session}
use Rattle.pass_report.specs.Reports.{IsLegalFrom}
use Rattle.pass_report.specs.Recorders.{HasPassed}
use Rattle.pass_report.proofs.reporting.record.Given as goal

abbrev pub invariant-loop-place : goal.invariant-loop-place
invariant-loop-place l = (session : Session) → IsLegalFrom l.start l.history session → HasPassed l.start session l.history l.place l.recorder
