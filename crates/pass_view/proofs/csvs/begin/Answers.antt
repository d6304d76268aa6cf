use Rattle.std.proofs.Common.{ap, ◌∙◌}
use Rattle.csv.specs.Writing.{with_terminator}
use Rattle.csv.specs.declared.parser.Terminator.TheVariants as term
use Rattle.csv.specs.declared.writer.WriterBuilder.{WriterBuilder}
use Rattle.pass_view.proofs.Rows.{begun}
use Rattle.pass_view.proofs.csvs.begin.Goals as goal

pub returns : goal.returns
returns c =
    let w = c.from_writer.ensures in
    begun c.from_writer.result c.new-2.result (w.cfg ∙ c.terminator.ensures ∙ ap (λ (b : WriterBuilder). with_terminator b term.CRLF) c.new.ensures) w.fields w.wrote w.wtr w.empty c.new-2.ensures.items
