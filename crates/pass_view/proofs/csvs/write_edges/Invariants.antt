use Rattle.std.proofs.Common.{take}
use Rattle.std.specs.List.{flat_map}
use Rattle.pass_view.specs.Csvs.{Writes, edge_row, row_bytes}
use Rattle.pass_view.specs.declared.picture.Link.{Link}
use Rattle.pass_view.proofs.csvs.write_edges.Given as goal

abbrev pub invariant-loop-link : goal.invariant-loop-link
invariant-loop-link l = Writes l.initial.out l.out (flat_map (λ (x : Link). row_bytes (edge_row l.store x)) (take l.link-index l.edges))
