use Rattle.std.proofs.Common.{◌≡◌, take}
use Rattle.std.specs.HashMap.{get}
use Rattle.pass_entry.specs.declared.objects.Node.{Node}
use Rattle.pass_plain.specs.Versions.{same_node}
use Rattle.pass_recipe.specs.Programs.{first_of}
use Rattle.pass_recipe.proofs.programs.first_values.Given as goal

abbrev pub invariant-loop-node : goal.invariant-loop-node
invariant-loop-node l = (n : Node) → get same_node l.firsts n ≡ first_of (take l.node-index l.values) n
