use Rattle.std.proofs.Common.{◌≡◌, ◌++◌, string_bytes}
use Rattle.std.specs.Prelude.{flat_map}
use Rattle.pass_report.specs.Reports.{edge_line}
use Rattle.pass_report.proofs.reporting.write_edges.Given as goal

abbrev pub invariant-loop-edge : goal.invariant-loop-edge
invariant-loop-edge l = string_bytes l.text ++ flat_map edge_line l.edge-iterator ≡ string_bytes l.initial.text ++ flat_map edge_line l.edges.keys
