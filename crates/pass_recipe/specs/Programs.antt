-- The programs that nodes ran.
use Rattle.std.specs.Prelude.{ℕ, ◌≡◌, List, Option, option_map, codes}
use Rattle.std.specs.List.{find}
use Rattle.pass_entry.specs.declared.objects.Node.{Node}
use Rattle.pass_entry.specs.declared.record.Record.{Record}
use Rattle.pass_plain.specs.Versions.{same_node}
use Rattle.pass_waldo.specs.Lookups.{values_in}
use Rattle.pass_recipe.specs.declared.entries.Made.{Made}

-- the first of the values that the node has
abbrev pub first_of : List (Node × List ℕ) → Node → Option (List ℕ)
first_of values node = option_map (λ v. v.1) (find (λ v. same_node node v.0) values)

-- the first value of the attribute that the records give the node
abbrev pub first_value : List Record → List ℕ → Node → Option (List ℕ)
first_value list attr node = first_of (values_in list attr) node

-- the entry has the first program name and the first arguments that the records give its node
abbrev pub HasProgram : List Record → Made → Type 0
HasProgram list made = (made.exe ≡ first_value list (codes "EXE") made.node) × (made.args ≡ first_value list (codes "ARGV") made.node)
