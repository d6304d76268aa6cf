use Rattle.std.proofs.Common.{◌≡◌, ◌==◌, ◌&&◌, not, ℕ, Bool, take}
use Rattle.std.specs.List.{list_any}
use Rattle.pass_plain.specs.Recording.{block_count, flags}
use Rattle.pass_book.specs.Syncs.{numbers_of}
use Rattle.pass_file.proofs.desk.syncing.clean_blocks.Given as goal

abbrev pub invariant-loop-block : goal.invariant-loop-block
invariant-loop-block l = record {
  dirty : (was : ℕ → Bool) → l.fn.state.dirty ≡ flags was block_count → l.state.dirty ≡ flags (λ b. was b && not (list_any (λ n. n == b) (numbers_of (take l.block-index l.blocks)))) block_count;
  state : l.state ≡ record l.fn.state { dirty = l.state.dirty };
}
