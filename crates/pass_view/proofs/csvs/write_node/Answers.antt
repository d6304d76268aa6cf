use Rattle.std.proofs.Common.{subst}
use Rattle.std.specs.Prelude.{OnOk}
use Rattle.pass_view.specs.Csvs.{Row, Writes, node_row, row_bytes}
use Rattle.pass_view.proofs.Rows.{all_pushed}
use Rattle.pass_view.proofs.csvs.write_node.Goals as goal

pub returns : goal.returns
returns c =
    subst (λ (row : Row). OnOk c.write_row.result (Writes c.args.out.now c.write_row.new.out (row_bytes row)))
    (all_pushed c.clear.new.self c.push_node.new.row (node_row c.args.store.now c.args.shown.now) c.clear.ensures.fields c.clear.ensures.partial c.in_ok-push_node.ensures)
    c.write_row.ensures
