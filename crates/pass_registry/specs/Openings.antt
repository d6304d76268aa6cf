-- The objects with which a session begins.
use Rattle.std.specs.Prelude.{ℕ, ◌≡◌, List, Some, slice_get}
use Rattle.pass_entry.specs.declared.objects.Kind.{Kind}
use Rattle.pass_entry.specs.declared.objects.Kind.TheVariants as kind
use Rattle.pass_entry.specs.declared.objects.Node.{Node}
use Rattle.pass_plain.specs.declared.start.StartFile.{StartFile}

abbrev pub file_object : StartFile → ℕ × Kind
file_object file = (file.node.pnode, kind.File)

abbrev pub app_object : Node → ℕ × Kind
app_object app = (app.pnode, kind.App)

-- each object has a number of its own
abbrev pub IsSingle : List (ℕ × Kind) → Type 0
IsSingle objects = (i j : ℕ) (a b : ℕ × Kind) → slice_get objects i ≡ Some a → slice_get objects j ≡ Some b → a.0 ≡ b.0 → i ≡ j
