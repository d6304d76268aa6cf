use Rattle.std.proofs.Common.{sym, ◌∙◌}
use Rattle.pass_table.proofs.Parts.{zero_is, zeros_extended}
use Rattle.pass_table.proofs.table.block_with.Goals as goal

pub returns-then-is_zero : goal.returns-then-is_zero
returns-then-is_zero c = zeros_extended 4096 c.args.bytes.now zero_is c.requires (sym c.is_zero.ensures ∙ c.if-is_zero.true)
