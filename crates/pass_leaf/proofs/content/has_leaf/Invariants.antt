use Rattle.std.proofs.Common.{◌≡◌, drop}
use Rattle.std.specs.List.{list_any}
use Rattle.pass_leaf.specs.Contents.{is_of}
use Rattle.pass_leaf.proofs.content.has_leaf.Given as goal

abbrev pub invariant-loop-leaf : goal.invariant-loop-leaf
invariant-loop-leaf l = list_any (is_of l.node) (drop l.leaf-index l.leaves) ≡ list_any (is_of l.node) l.leaves
