use Rattle.std.proofs.Common.{take}
use Rattle.pass_prune.specs.Tables.{AreNodes}
use Rattle.pass_prune.proofs.choosing.first_lacking.Given as goal

abbrev pub invariant-loop-node : goal.invariant-loop-node
invariant-loop-node l = AreNodes l.index (take l.node-index l.named)
