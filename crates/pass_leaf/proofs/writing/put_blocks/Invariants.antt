use Rattle.std.proofs.Common.{◌≡◌, ◌++◌, drop}
use Rattle.pass_leaf.specs.Leaves.{blocks_bytes}
use Rattle.pass_leaf.proofs.writing.put_blocks.Given as goal

-- the bytes so far and those of the blocks left are all of them
abbrev pub invariant-loop-block : goal.invariant-loop-block
invariant-loop-block l = l.out.items ++ blocks_bytes (drop l.block-index l.blocks) ≡ l.initial.out.items ++ blocks_bytes l.blocks
