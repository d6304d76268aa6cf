use Rattle.csv.specs.Records.{fields_of}
use Rattle.pass_view.proofs.Rows.{row_written}
use Rattle.pass_view.proofs.csvs.write_row.Goals as goal

pub returns : goal.returns
returns c =
    row_written c.args.out.now c.write_byte_record.new.self (fields_of c.args.row.now) c.in_default.ensures.setup c.in_default.ensures.ended c.in_default.ensures.clean c.in_default.ensures.bytes
