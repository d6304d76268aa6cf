use Rattle.std.proofs.Common.{[], ◌++◌}
use Rattle.std.specs.List.{flat_map}
use Rattle.pass_view.specs.Csvs.{node_columns, node_row, row_bytes}
use Rattle.pass_view.specs.declared.picture.Shown.{Shown}
use Rattle.pass_view.proofs.csvs.nodes_table.Goals as goal

pub returns : goal.returns
returns c =
    c.end.ensures (row_bytes node_columns ++ flat_map (λ (s : Shown). row_bytes (node_row c.args.store.now s)) c.args.nodes.now)
    (c.in_ok-write_nodes.ensures (row_bytes node_columns) (c.in_ok-write_node_columns.ensures [] c.begin-out.ensures))
