use Rattle.std.proofs.Common.{◌≡◌, ◌+◌, ◌≤◌, ◌||◌, ℕ}
use Rattle.pass_file.specs.BlockSets.{is_among}
use Rattle.pass_file.specs.Touches.{is_within}
use Rattle.pass_file.proofs.set.BlockSet.insert_all.Given as goal

abbrev pub invariant-loop-block : goal.invariant-loop-block
invariant-loop-block l = record {
  from : l.first ≤ l.block;
  blocks : (b : ℕ) → is_among l.self.blocks b ≡ (is_within l.first l.block b || is_among l.fn.self.blocks b);
  room : l.first + l.fn.self.room ≤ l.block + l.self.room;
}
