use Rattle.std.proofs.Common.{◌≡◌, false, take}
use Rattle.std.specs.Prelude.{Contains}
use Rattle.std.specs.HashSet.{contains}
use Rattle.pass_entry.specs.declared.objects.Node.{Node}
use Rattle.pass_plain.specs.Versions.{same_node}
use Rattle.pass_recipe.specs.Queues.{IsQueue, IsHeld}
use Rattle.pass_recipe.proofs.Leaving.{AreCounted}
use Rattle.pass_recipe.proofs.entries.enqueue.Given as goal

abbrev pub invariant-loop-node : goal.invariant-loop-node
invariant-loop-node g l = record {
  made : (n : Node) → contains same_node l.queue.made n ≡ false;
  queue : IsQueue l.index l.nodes l.queue;
  held : (n : Node) → Contains (take l.node-index l.nodes) n → IsHeld l.queue n;
  steps : AreCounted l.index (take l.node-index l.nodes) l.fn.steps l.steps;
}
