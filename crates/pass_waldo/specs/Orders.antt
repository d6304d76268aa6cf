-- The order of nodes: by the object's number, then by the version.
use Rattle.std.specs.Ordering.{nat_cmp, ordering_then}
use Rattle.std.specs.declared.cmp.Ordering.{Ordering}
use Rattle.pass_entry.specs.declared.objects.Node.{Node}

abbrev pub node_cmp : Node → Node → Ordering
node_cmp a b = ordering_then (nat_cmp a.pnode b.pnode) (nat_cmp a.version b.version)
