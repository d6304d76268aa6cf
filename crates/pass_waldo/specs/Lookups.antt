-- What an index answers from the records that it has taken.
use Rattle.std.specs.Prelude.{ℕ, List, Option, Some, None, option_map, bytes_eq, Contains, ◌↔◌, if◌then◌else◌}
use Rattle.std.specs.List.{filter_map}
use Rattle.std.specs.List.Sorted.{IsStrictlySortedBy}
use Rattle.std.specs.declared.cmp.Ordering.{Ordering}
use Rattle.pass_entry.specs.declared.objects.Node.{Node}
use Rattle.pass_entry.specs.declared.record.Record.{Record}
use Rattle.pass_entry.specs.declared.record.Record.TheVariants as log
use Rattle.pass_plain.specs.WellLogged.{kind_of, current_of}

-- the current version of an object, if the records have one of that number
abbrev pub current_in : List Record → ℕ → Option ℕ
current_in list object = option_map (λ k. current_of list object) (kind_of list object)

-- what a record says of the attribute
abbrev pub value_in : List ℕ → Record → Option (Node × List ℕ)
value_in attr (log.Attr node name value) = if bytes_eq attr name then Some (node, value) else None
value_in attr _ = None

-- the values of an attribute with the nodes that have them, in the order of the records
abbrev pub values_in : List Record → List ℕ → List (Node × List ℕ)
values_in list attr = filter_map (value_in attr) list

-- the row has exactly what P holds of, each once, in ascending order
pub record AreAll {X : Type 0} (cmp : X → X → Ordering) (row : List X) (P : X → Type 0) : Type 0 where
  pub ascending : IsStrictlySortedBy cmp row
  pub all : (x : X) → Contains row x ↔ P x
