-- The rows of what texts name.
use Rattle.std.specs.Prelude.{ℕ, ◌≡◌, ◌<◌, Bool, List, [], IsSomeAnd, vec_len, vec_capacity, bytes_eq}
use Rattle.std.specs.Option.{option_map_or}
use Rattle.std.specs.HashMap.{get_by}
use Rattle.std.specs.List.Sorted.{IsStrictlySortedBy}
use Rattle.std.specs.Ordering.{nat_cmp}
use Rattle.std.specs.declared.vec.Vec.{Vec}
use Rattle.std.specs.declared.alloc.Global.{Global}
use Rattle.pass_entry.specs.declared.objects.Node.{Node}
use Rattle.pass_waldo.specs.declared.texts.Texts.{Texts}

abbrev pub is_text : List ℕ → Vec ℕ Global → Bool
is_text name key = bytes_eq name key.items

abbrev pub files_named : Texts → List ℕ → List ℕ
files_named texts name = option_map_or (λ row. row.files.items) (get_by (is_text name) texts.rows) []

abbrev pub values_of : Texts → List ℕ → List (Node × List ℕ)
values_of texts attr = option_map_or (λ row. row.values.items) (get_by (is_text attr) texts.rows) []

-- each text names the same
pub record NameTheSame (old new : Texts) : Type 0 where
  pub files : (name : List ℕ) → files_named new name ≡ files_named old name
  pub values : (attr : List ℕ) → values_of new attr ≡ values_of old attr

-- each row of files is in ascending order, without repeats
abbrev pub HaveSortedFiles : Texts → Type 0
HaveSortedFiles texts = (name : List ℕ) → IsStrictlySortedBy nat_cmp (files_named texts name)

-- a file, or a value, may be put into the text's row without taking memory
abbrev pub HasFileRoom : Texts → List ℕ → Type 0
HasFileRoom texts name = IsSomeAnd (get_by (is_text name) texts.rows) (λ row. vec_len row.files < vec_capacity row.files)

abbrev pub HasValueRoom : Texts → List ℕ → Type 0
HasValueRoom texts attr = IsSomeAnd (get_by (is_text attr) texts.rows) (λ row. vec_len row.values < vec_capacity row.values)
