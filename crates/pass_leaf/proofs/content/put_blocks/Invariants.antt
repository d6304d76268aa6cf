use Rattle.pass_leaf.proofs.Putting.{IsPutting}
use Rattle.pass_leaf.proofs.content.put_blocks.Given as goal

abbrev pub invariant-loop-block : goal.invariant-loop-block
invariant-loop-block l = IsPutting l.leaf.size l.initial.content l.content l.leaf.blocks l.block-index
