use Rattle.std.proofs.Common.{◌≡◌, take}
use Rattle.pass_outside.specs.declared.blocks.TheConstants.{BLOCK}
use Rattle.pass_outside.specs.Blocks.{flat, held}
use Rattle.pass_outside.proofs.blocks.copy_blocks.Given as goal

abbrev pub invariant-loop-block : goal.invariant-loop-block
invariant-loop-block l = record {
  same : flat BLOCK l.copy.items ≡ flat BLOCK (take l.block-index l.blocks);
  held : held l.copy.items ≡ held (take l.block-index l.blocks);
}
