use Rattle.std.proofs.Common.{◌≡◌, map}
use Rattle.std.specs.List.{All}
use Rattle.pass_vault.specs.Blocks.{IsCut, pair_of}
use Rattle.pass_vault.specs.Pooled.{written_below}
use Rattle.pass_vault.proofs.unwritten.blocks_to_write.Given as goal

abbrev pub invariant-loop-block : goal.invariant-loop-block
invariant-loop-block l = record {
  pairs : map pair_of l.blocks.items ≡ written_below l.pool l.fn.number l.given l.block;
  cut : IsCut l.given l.block l.place;
  of_file : All (λ x. x.number ≡ l.fn.number) l.blocks.items;
}
