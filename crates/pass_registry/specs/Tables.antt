-- Objects by their numbers, in the order in which they were made.
use Rattle.std.specs.Prelude.{ℕ, suc, ◌≡◌, Bool, true, false, ◌&&◌, List, [], ◌∷◌, Option, Some, None, map, count_by, nat_le}
use Rattle.pass_entry.specs.declared.objects.Kind.{Kind}
use Rattle.pass_entry.specs.declared.objects.Kind.TheVariants as kind
use Rattle.pass_entry.specs.Limits.{kind_limit}
use Rattle.pass_plain.specs.Registries.{same_kind, is_limited}
use Rattle.pass_registry.specs.declared.objects.Object.{Object}
use Rattle.pass_registry.specs.declared.objects.Object.TheVariants as object

-- the objects, and for how many more there is room
pub record ObjectState : Type 0 where
  pub objects : List (ℕ × Kind)
  pub room : ℕ

abbrev pub kind_of : Object → Kind
kind_of object.Process = kind.Process
kind_of (object.File number) = kind.File
kind_of object.Pipe = kind.Pipe
kind_of object.App = kind.App

-- an object of a kind, which has this number if it is a file
abbrev pub object_of : Kind → ℕ → Object
object_of kind.Process number = object.Process
object_of kind.File number = object.File number
object_of kind.Pipe number = object.Pipe
object_of kind.App number = object.App

abbrev pub is_app_in : Object → Bool
is_app_in object.App = true
is_app_in _ = false

abbrev pub number_in : Object → Option ℕ
number_in (object.File number) = Some number
number_in _ = None

abbrev pub kinds_of : List (ℕ × Object) → List (ℕ × Kind)
kinds_of table = map (λ o. (o.0, kind_of o.1)) table

-- the files of the table are numbered in its order, from this number on
abbrev pub IsNumbered : ℕ → List (ℕ × Object) → Type 0
IsNumbered next [] = Unit {0}
IsNumbered next ((pnode, object.File number) ∷ table) = (number ≡ next) × IsNumbered (suc next) table
IsNumbered next ((pnode, o) ∷ table) = IsNumbered next table

abbrev pub count_in : Kind → List (ℕ × Kind) → ℕ
count_in k objects = count_by (λ o. same_kind o.1 k) objects

-- there are as many objects of this kind as a store may have
abbrev pub is_filled : List (ℕ × Kind) → Kind → Bool
is_filled objects k = is_limited k && nat_le kind_limit (count_in k objects)

-- the files of the table have their numbers, and there are so many files and app objects
pub record IsTable (table : List (ℕ × Object)) (files apps : ℕ) : Type 0 where
  pub numbered : IsNumbered 0 table
  pub files_counted : files ≡ count_in kind.File (kinds_of table)
  pub apps_counted : apps ≡ count_in kind.App (kinds_of table)
