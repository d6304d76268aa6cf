-- What a range table has, and the ranges of it that an area doesn't match.
use Rattle.std.specs.Prelude.{◌≡◌, ◌⊎◌, ◌↔◌, ℕ, ◌<◌, ◌==◌, ◌&&◌, Bool, true, not, if◌then◌else◌, bytes_eq, List, Option, Some, option_map, is_none, map, filter, Contains, slice_get}
use Rattle.std.specs.Option.{option_map_or}
use Rattle.std.specs.Ordering.{nat_cmp}
use Rattle.std.specs.BTreeMap.{BTreeMap, get}
use Rattle.md5.specs.Md5.{md5}
use Rattle.pass_entry.specs.declared.objects.Kind.TheVariants as kind
use Rattle.pass_entry.specs.declared.record.Record.{Record}
use Rattle.pass_entry.specs.declared.record.Record.TheVariants as log
use Rattle.pass_plain.specs.Registries.{same_kind}
use Rattle.pass_plain.specs.Records.{range_len}
use Rattle.pass_plain.specs.WellLogged.{size_of}
use Rattle.pass_range.specs.declared.range.Range.{Range}
use Rattle.pass_range.specs.declared.table.Table.{Table}
use Rattle.pass_range.specs.declared.table.TableFile.{TableFile}
use Rattle.pass_range.specs.Places.{place, found_there}
use Rattle.pass_range.specs.Rows.{row_of, number_of, IsUnmatched}

-- a row: a block of a file, and its digest
abbrev pub Row : Type 0
Row = Range × List ℕ

abbrev pub range_at : ℕ → ℕ → Range
range_at pnode block = record { pnode = pnode; block = block }

-- by file, and by block in a file
abbrev pub IsBelow : Range → Range → Type 0
IsBelow a b = (a.pnode < b.pnode) ⊎ ((a.pnode ≡ b.pnode) × (a.block < b.block))

abbrev pub IsAscending : List Range → Type 0
IsAscending ranges = (i j : ℕ) (a b : Range) → i < j → slice_get ranges i ≡ Some a → slice_get ranges j ≡ Some b → IsBelow a b

-- a file with another size
abbrev pub with_size : ℕ → TableFile → TableFile
with_size size file = record file { size = size }

-- what a record makes of a file, where it makes one of this number
abbrev pub file_look : ℕ → ℕ → Option TableFile → Record → Option TableFile
file_look number pnode file (log.Object made k) = if same_kind k kind.File && made == pnode then Some (record { number = number; size = 0 }) else file
file_look number pnode file (log.Size one size) = if one == pnode then option_map (with_size size) file else file
file_look number pnode file _ = file

-- how many files it makes beside these
abbrev pub file_more : BTreeMap ℕ TableFile → Record → ℕ
file_more files (log.Object made k) = if same_kind k kind.File && is_none (get nat_cmp files made) then 1 else 0
file_more files _ = 0

-- what the table has of a file
abbrev pub file_in : Table → ℕ → Option TableFile
file_in table pnode = get nat_cmp table.files pnode

-- what a list says of a file that it makes: its number and its size
abbrev pub file_of : List Record → ℕ → Option TableFile
file_of list pnode = option_map (λ n. record { number = n; size = size_of list pnode }) (number_of list pnode)

-- the table of a list: its rows ascend, they are the rows of the list, and its files have their numbers and sizes
pub record IsTableOf (list : List Record) (table : Table) : Type 0 where
  pub ascending : IsAscending (map (λ (row : Row). row.0) table.rows.items)
  pub rows : (pnode block : ℕ) (digest : List ℕ) → Contains table.rows.items (range_at pnode block, digest) ↔ (row_of list pnode block ≡ Some digest)
  pub files : (pnode : ℕ) → file_in table pnode ≡ file_of list pnode

-- a row has the digest of what the area has in its range, or the table hasn't its file
abbrev pub is_matched : Table → List ℕ → Row → Bool
is_matched table store row =
    option_map_or (λ (file : TableFile). bytes_eq (md5 (found_there (place file.number row.0.block) (range_len file.size row.0.block) store)) row.1) (file_in table row.0.pnode) true

-- the ranges of the rows that the area doesn't match, in their order
abbrev pub unmatched_in : Table → List ℕ → List Range
unmatched_in table store = map (λ (row : Row). row.0) (filter (λ row. not (is_matched table store row)) table.rows.items)

-- the ranges are those of the list that the area doesn't match, in ascending order
pub record AreUnmatched (list : List Record) (store : List ℕ) (ranges : List Range) : Type 0 where
  pub ascending : IsAscending ranges
  pub exact : (pnode block : ℕ) → Contains ranges (range_at pnode block) ↔ IsUnmatched list store pnode block
