use Rattle.std.proofs.Common.{◌≡◌, ◌⊎◌, ℕ, ◌-◌, ◌≤◌, ◌<◌, get_or, vec_len}
use Rattle.pass_outside.specs.declared.blocks.TheConstants.{BLOCK}
use Rattle.pass_outside.specs.Blocks.{flat, held, AreWithin}
use Rattle.pass_outside.proofs.blocks.write_out_blocks.Given as goal

abbrev pub invariant-parts : goal.invariant-parts
invariant-parts l = record {
  within : AreWithin BLOCK l.blocks.items;
  same : flat BLOCK l.blocks.items ≡ flat BLOCK l.fn.blocks.items;
  count : vec_len l.blocks ≡ vec_len l.fn.blocks;
  from : l.first ≤ l.next;
  elsewhere : (k : ℕ) → (k < l.first) ⊎ (l.end ≤ k) → get_or (held l.blocks.items) k 0 ≡ get_or (held l.fn.blocks.items) k 0;
  whole : (k : ℕ) → k < l.next → l.first ≤ k → get_or (held l.blocks.items) k 0 ≡ BLOCK;
}

abbrev pub decreases-parts : goal.decreases-parts
decreases-parts l = l.end - l.next
