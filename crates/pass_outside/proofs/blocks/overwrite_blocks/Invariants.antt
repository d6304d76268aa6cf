use Rattle.std.proofs.Common.{◌≡◌, ◌-◌, ◌≤◌, length, take, vec_len}
use Rattle.pass_outside.specs.declared.blocks.TheConstants.{BLOCK}
use Rattle.pass_outside.specs.Blocks.{flat, held, over}
use Rattle.pass_outside.proofs.blocks.overwrite_blocks.Given as goal

abbrev pub invariant-pieces : goal.invariant-pieces
invariant-pieces l = record {
  within : l.done ≤ length l.bytes;
  held : held l.blocks.items ≡ held l.fn.blocks.items;
  count : vec_len l.blocks ≡ vec_len l.fn.blocks;
  written : flat BLOCK l.blocks.items ≡ over (flat BLOCK l.fn.blocks.items) l.at (take l.done l.bytes);
}

abbrev pub decreases-pieces : goal.decreases-pieces
decreases-pieces l = length l.bytes - l.done
