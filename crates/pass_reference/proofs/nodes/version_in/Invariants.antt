use Rattle.std.proofs.Common.{◌≡◌, ◌==◌, take}
use Rattle.std.specs.Prelude.{fold, if◌then◌else◌}
use Rattle.pass_entry.specs.declared.objects.Node.{Node}
use Rattle.pass_plain.specs.Sessions.{opening_version}
use Rattle.pass_reference.proofs.nodes.version_in.Given as goal

abbrev pub invariant-loop-node : goal.invariant-loop-node
invariant-loop-node l = l.version ≡ fold (λ v (n : Node). if n.pnode == l.object then n.version else v) (opening_version l.start l.object) (take l.node-index l.nodes)
