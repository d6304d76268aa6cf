use Rattle.std.proofs.Common.{◌≡◌, length}
use Rattle.pass_leaf.proofs.Blocks.{IsReading}
use Rattle.pass_leaf.proofs.reading.read_blocks.Given as goal

abbrev pub invariant-loop : goal.invariant-loop
invariant-loop l = record { reading : IsReading l.size l.from l.initial.cursor l.cursor l.blocks.items; count : length l.blocks.items ≡ l.counter }
