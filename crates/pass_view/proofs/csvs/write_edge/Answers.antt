use Rattle.std.proofs.Common.{subst}
use Rattle.std.specs.Prelude.{OnOk}
use Rattle.pass_view.specs.Csvs.{Row, Writes, edge_row, row_bytes}
use Rattle.pass_view.proofs.Rows.{all_pushed}
use Rattle.pass_view.proofs.csvs.write_edge.Goals as goal

pub returns : goal.returns
returns c =
    subst (λ (row : Row). OnOk c.write_row.result (Writes c.args.out.now c.write_row.new.out (row_bytes row)))
    (all_pushed c.clear.new.self c.push_edge.new.row (edge_row c.args.store.now c.args.link.now) c.clear.ensures.fields c.clear.ensures.partial c.in_ok-push_edge.ensures)
    c.write_row.ensures
