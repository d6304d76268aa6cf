use Rattle.std.specs.HashMap.{get}
use Rattle.pass_entry.specs.declared.objects.Node.{Node}
use Rattle.pass_plain.specs.Versions.{same_node}
use Rattle.pass_inputs.proofs.Seeking.{IsSought}
use Rattle.pass_inputs.proofs.places.places_of.Given as goal

abbrev pub invariant-loop-place : goal.invariant-loop-place
invariant-loop-place l = (node : Node) → IsSought l.leaves l.place node (get same_node l.places node)
