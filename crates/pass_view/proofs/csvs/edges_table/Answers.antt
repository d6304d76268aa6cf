use Rattle.std.proofs.Common.{[], ◌++◌}
use Rattle.std.specs.List.{flat_map}
use Rattle.pass_view.specs.Csvs.{edge_columns, edge_row, row_bytes}
use Rattle.pass_view.specs.declared.picture.Link.{Link}
use Rattle.pass_view.proofs.csvs.edges_table.Goals as goal

pub returns : goal.returns
returns c =
    c.end.ensures (row_bytes edge_columns ++ flat_map (λ (e : Link). row_bytes (edge_row c.args.store.now e)) c.args.edges.now)
    (c.in_ok-write_edges.ensures (row_bytes edge_columns) (c.in_ok-write_edge_columns.ensures [] c.begin-out.ensures))
