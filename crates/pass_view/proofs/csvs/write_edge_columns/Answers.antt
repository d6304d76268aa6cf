use Rattle.std.proofs.Common.{subst, [], ◌∷◌}
use Rattle.std.specs.Prelude.{OnOk}
use Rattle.pass_view.specs.Csvs.{Row, Writes, row_bytes}
use Rattle.pass_view.proofs.csvs.write_edge_columns.Goals as goal

pub returns : goal.returns
returns c =
    subst (λ (row : Row). OnOk c.write_columns.result (Writes c.args.out.now c.write_columns.new.out (row_bytes row)))
    (λ i. c.as_bytes.ensures.value i ∷ c.as_bytes-2.ensures.value i ∷ c.as_bytes-3.ensures.value i ∷ [])
    c.write_columns.ensures
