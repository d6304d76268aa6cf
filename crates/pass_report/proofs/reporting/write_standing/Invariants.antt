use Rattle.std.proofs.Common.{◌≡◌, ◌++◌, string_bytes}
use Rattle.std.specs.Prelude.{flat_map}
use Rattle.pass_report.specs.Standings.{waiting_text}
use Rattle.pass_report.proofs.reporting.write_standing.Given as goal

abbrev pub invariant-loop-process : goal.invariant-loop-process
invariant-loop-process l =
    string_bytes l.text ++ flat_map (waiting_text l.standing) l.process-iterator ≡ string_bytes l.initial.text ++ flat_map (waiting_text l.standing) l.standing.processes.keys
