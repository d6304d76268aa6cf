use Rattle.std.proofs.Common.{take}
use Rattle.std.specs.List.{flat_map}
use Rattle.pass_view.specs.Csvs.{Writes, node_row, row_bytes}
use Rattle.pass_view.specs.declared.picture.Shown.{Shown}
use Rattle.pass_view.proofs.csvs.write_nodes.Given as goal

abbrev pub invariant-loop-shown : goal.invariant-loop-shown
invariant-loop-shown l = Writes l.initial.out l.out (flat_map (λ (x : Shown). row_bytes (node_row l.store x)) (take l.shown-index l.nodes))
