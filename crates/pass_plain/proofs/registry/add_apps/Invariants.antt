use Rattle.std.proofs.Common.{◌≡◌, ◌++◌, take, map}
use Rattle.pass_entry.specs.declared.objects.Kind.TheVariants as kind
use Rattle.pass_entry.specs.declared.objects.Node.{Node}
use Rattle.pass_plain.proofs.registry.add_apps.Given as goal

abbrev pub invariant-loop-app : goal.invariant-loop-app
invariant-loop-app l = l.objects.items ≡ l.initial.objects.items ++ map (λ (n : Node). (n.pnode, kind.App)) (take l.app-index l.apps)
