-- The last name that an object was given, whether it lost it or not.
use Rattle.std.proofs.Common.{ℕ, ◌≡◌, ◌==◌, ◌∙◌, Bool, true, false, refl, sym, ap, List, [], ◌∷◌}
use Rattle.std.specs.Prelude.{Option, Some, None, fold, option_map, if◌then◌else◌}
use Rattle.std.specs.Option.{option_map_or}
use Rattle.pass_entry.specs.declared.record.Record.{Record}
use Rattle.pass_entry.specs.declared.record.Record.TheVariants as log
use Rattle.pass_view.specs.Facts.{given, given_look, is_system, is_system_name}
use Rattle.pass_files.specs.Told.{named, naming_look, naming_of}
use Rattle.pass_files.specs.declared.facts.Naming.{Naming}

abbrev name_of : Naming → List ℕ
name_of naming = naming.name

given_named : (b : Bool) (name : List ℕ) (last : Option Naming) → (if b then given name (option_map name_of last) else option_map name_of last) ≡ option_map name_of (if b then named last name else last)
given_named false name last = refl
given_named true (c ∷ name) last = refl
given_named true [] (Some naming) = refl
given_named true [] None = refl

given_next : (object : ℕ) (last : Option Naming) (r : Record) → given_look object (option_map name_of last) r ≡ option_map name_of (naming_look object last r)
given_next object last (log.Name pnode name) = given_named (pnode == object) name last
given_next object last _ = refl

given_all : (object : ℕ) (last : Option Naming) (list : List Record) → fold (given_look object) (option_map name_of last) list ≡ option_map name_of (fold (naming_look object) last list)
given_all object last [] = refl
given_all object last (r ∷ list) = ap (λ x. fold (given_look object) x list) (given_next object last r) ∙ given_all object (naming_look object last r) list

-- a file of the system, by the table's row
pub systems_are : (list : List Record) (object : ℕ) (row : Option Naming) → row ≡ naming_of list object → option_map_or (λ (n : Naming). is_system_name n.name) row false ≡ is_system list object
systems_are list object row is =
    of_row row ∙ ap (λ (o : Option (List ℕ)). option_map_or is_system_name o false) (ap (option_map name_of) is ∙ sym (given_all object None list))
  where
    of_row : (o : Option Naming) → option_map_or (λ (n : Naming). is_system_name n.name) o false ≡ option_map_or is_system_name (option_map name_of o) false
    of_row (Some naming) = refl
    of_row None = refl
