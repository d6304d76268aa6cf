use Rattle.std.proofs.Common.{◌≡◌, map}
use Rattle.std.specs.Prelude.{filter}
use Rattle.std.specs.List.{range_with_len}
use Rattle.pass_leaf.specs.Keeping.{block_of, differs}
use Rattle.pass_leaf.proofs.making.changed.Given as goal

-- the blocks of the numbers so far
abbrev pub invariant-loop-number : goal.invariant-loop-number
invariant-loop-number l = l.blocks.items ≡ map (block_of l.new) (filter (differs l.old l.new) (range_with_len 0 l.number))
