use Rattle.std.proofs.Common.{◌≡◌, ℕ, ◌-◌, ◌++◌, replicate, vec_len}
use Rattle.pass_outside.specs.declared.blocks.TheConstants.{BLOCK}
use Rattle.pass_outside.specs.Blocks.{flat, AreWithin}
use Rattle.pass_outside.proofs.blocks.add_blocks.Given as goal

abbrev pub invariant-more : goal.invariant-more
invariant-more l = record {
  within : AreWithin BLOCK l.blocks.items;
  zeros : (n : ℕ) × (flat BLOCK l.blocks.items ≡ flat BLOCK l.fn.blocks.items ++ replicate n 0);
}

abbrev pub decreases-more : goal.decreases-more
decreases-more l = l.count - vec_len l.blocks
