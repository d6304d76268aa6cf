use Rattle.pass_leaf.proofs.Putting.{IsSeeking}
use Rattle.pass_leaf.proofs.content.content_at.Given as goal

abbrev pub invariant-loop-leaf : goal.invariant-loop-leaf
invariant-loop-leaf l = IsSeeking l.leaves l.node l.content.items l.leaf-index
