-- The numbers of files in the data area: files are numbered from 0 in the order in which they were made, those of the opening first.
use Rattle.std.specs.Prelude.{◌≡◌, ℕ, List, Some, map, filter, slice_get}
use Rattle.pass_entry.specs.declared.entry.Entry.{Entry}
use Rattle.pass_entry.specs.declared.objects.Kind.{Kind}
use Rattle.pass_entry.specs.declared.objects.Kind.TheVariants as kind
use Rattle.pass_plain.specs.Sessions.{Session}
use Rattle.pass_plain.specs.Registries.{same_kind, registry_after}

-- the files among objects
abbrev pub files_of : List (ℕ × Kind) → List ℕ
files_of objects = map (λ (o : ℕ × Kind). o.0) (filter (λ (o : ℕ × Kind). same_kind o.1 kind.File) objects)

-- after the history the file has this number
abbrev pub IsFileNumber : Session → List Entry → ℕ → ℕ → Type 0
IsFileNumber session history file number = slice_get (files_of (registry_after session history).objects) number ≡ Some file
