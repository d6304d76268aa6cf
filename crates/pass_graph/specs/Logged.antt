-- What a list of records says, and the tables that tell it.
use Rattle.std.specs.Prelude.{ℕ, ◌≡◌, ◌≤◌, List, [], Option, Some, None, length, count_by, option_map, unwrap_or, ◌∷◌, nat_eq, ◌&&◌, Bool}
use Rattle.std.specs.List.{list_any}
use Rattle.std.specs.HashMap.{get, get_by}
use Rattle.std.specs.HashSet.{contains}
use Rattle.std.specs.Cmp.Lexicographic.{pointwise}
use Rattle.pass_entry.specs.declared.objects.Node.{Node}
use Rattle.pass_entry.specs.declared.objects.Kind.TheVariants as kind
use Rattle.pass_entry.specs.declared.record.Record.{Record}
use Rattle.pass_plain.specs.Versions.{same_node}
use Rattle.pass_plain.specs.WellLogged.{kind_of, current_of, size_of, last_name_of, ceiling_of, has_kind, has_source, is_input}
use Rattle.pass_graph.specs.declared.logged.Told.{Told}
use Rattle.pass_graph.specs.declared.logged.Logged.{Logged}

-- what a list says of an object, if it has one of that number
abbrev pub told : List Record → ℕ → Option Told
told list object = option_map (λ k. record { kind = k; version = current_of list object; size = size_of list object }) (kind_of list object)

-- a name, none where it is empty
abbrev pub name_in : List ℕ → Option (List ℕ)
name_in [] = None
name_in (b ∷ name) = Some (b ∷ name)

abbrev pub same_pair : Node × Node → Node × Node → Bool
same_pair a b = same_node a.0 b.0 && same_node a.1 b.1

-- the tables tell what the list says
pub record Summarizes (logged : Logged) (list : List Record) : Type 0 where
  pub ceiling : logged.ceiling ≡ ceiling_of list
  pub files : logged.files ≡ count_by (has_kind kind.File) list
  pub apps : logged.apps ≡ count_by (has_kind kind.App) list
  pub objects : (object : ℕ) → get nat_eq logged.objects object ≡ told list object
  -- an object that the list doesn't have is as a new one
  pub unknown : (object : ℕ) → kind_of list object ≡ None → (current_of list object ≡ 1) × (size_of list object ≡ 0)
  pub names : (object : ℕ) → unwrap_or (get nat_eq logged.names object) [] ≡ last_name_of list object
  -- a file that has a name is the last one that got it
  pub holders : (object : ℕ) → 1 ≤ length (last_name_of list object) → get_by (λ k. pointwise nat_eq (last_name_of list object) k.items) logged.holders ≡ Some object
  pub sources : (node : Node) → contains same_node logged.sources node ≡ list_any (has_source node) list
  pub inputs : (target source : Node) → contains same_pair logged.inputs (target, source) ≡ list_any (is_input target source) list
