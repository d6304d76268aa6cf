use Rattle.std.proofs.Common.{◌≡◌, take}
use Rattle.std.specs.Prelude.{flat_map}
use Rattle.pass_report.specs.Reports.{ascending, edge_cmp, edges_of_record}
use Rattle.pass_ask.proofs.counting.count_edges.Given as goal

abbrev pub invariant-loop-one : goal.invariant-loop-one
invariant-loop-one l = l.edges.keys ≡ ascending edge_cmp (flat_map edges_of_record (take l.one-index l.list))
