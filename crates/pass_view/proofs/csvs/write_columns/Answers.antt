use Rattle.std.specs.Prelude.{map}
use Rattle.pass_view.proofs.Rows.{row_written}
use Rattle.pass_view.proofs.csvs.write_columns.Goals as goal

pub returns : goal.returns
returns c =
    row_written c.args.out.now c.write_fields.new.self (map (λ f. f.now) c.args.columns.now) c.in_default.ensures.setup c.in_default.ensures.ended c.in_default.ensures.clean c.in_default.ensures.bytes
