use Rattle.std.proofs.Common.{◌≡◌, ◌⊎◌, ◌-◌, [], length}
use Rattle.std.specs.Prelude.{Contains}
use Rattle.std.specs.List.{All, list_any}
use Rattle.std.specs.HashSet.{contains}
use Rattle.pass_entry.specs.declared.objects.Node.{Node}
use Rattle.pass_plain.specs.Versions.{same_node}
use Rattle.pass_plain.specs.Graphs.{IsEdge}
use Rattle.pass_waldo.specs.Orders.{node_cmp}
use Rattle.pass_waldo.specs.Lookups.{AreAll}
use Rattle.pass_recipe.specs.Orders.{IsGreedy, nodes_of}
use Rattle.pass_recipe.specs.Programs.{HasProgram}
use Rattle.pass_recipe.specs.Queues.{IsQueue, IsHeld}
use Rattle.pass_recipe.proofs.entries.entries.Given as goal

abbrev pub invariant-loop-list : goal.invariant-loop-list
invariant-loop-list l = record {
  greedy : IsGreedy l.index l.nodes [] (nodes_of l.list.items);
  made : (n : Node) → contains same_node l.queue.made n ≡ list_any (same_node n) (nodes_of l.list.items);
  queue : IsQueue l.index l.nodes l.queue;
  held : (n : Node) → Contains l.nodes n → Contains (nodes_of l.list.items) n ⊎ IsHeld l.queue n;
  sources : All (λ m. AreAll node_cmp m.sources.items (λ s. IsEdge l.index m.node s)) l.list.items;
  programs : All (HasProgram l.index) l.list.items;
}

abbrev pub decreases-loop-list : goal.decreases-loop-list
decreases-loop-list l = length l.nodes - length (nodes_of l.list.items)
