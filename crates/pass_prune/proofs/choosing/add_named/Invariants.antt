use Rattle.std.proofs.Common.{◌≡◌, ◌⊎◌, ◌↔◌, true, take}
use Rattle.std.specs.HashSet.{contains}
use Rattle.pass_entry.specs.declared.objects.Node.{Node}
use Rattle.pass_plain.specs.Versions.{same_node}
use Rattle.pass_prune.specs.Choices.{IsNamed}
use Rattle.pass_prune.proofs.choosing.add_named.Given as goal

abbrev pub invariant-loop-node : goal.invariant-loop-node
invariant-loop-node g l = (n : Node) → (contains same_node l.nodes n ≡ true) ↔ ((contains same_node l.initial.nodes n ≡ true) ⊎ IsNamed l.index (take l.node-index l.named) n)
