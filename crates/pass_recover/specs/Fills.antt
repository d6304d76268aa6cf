-- Files of a start into which the first rows of a table have been read.
use Rattle.std.specs.Prelude.{◌≡◌, ℕ, ◌==◌, ◌&&◌, Bool, true, false, not, bytes_eq, List, [], length, map, filter, Some, slice_get}
use Rattle.std.specs.List.{list_any}
use Rattle.std.specs.Option.{option_map_or}
use Rattle.md5.specs.Md5.{md5}
use Rattle.pass_entry.specs.declared.record.Record.{Record}
use Rattle.pass_plain.specs.declared.start.StartFile.{StartFile}
use Rattle.pass_plain.specs.Records.{range_len}
use Rattle.pass_plain.specs.WellLogged.{current_of, last_name_of, size_of}
use Rattle.pass_range.specs.declared.range.Range.{Range}
use Rattle.pass_range.specs.declared.table.Table.{Table}
use Rattle.pass_range.specs.declared.table.TableFile.{TableFile}
use Rattle.pass_range.specs.Places.{place, found_there}
use Rattle.pass_range.specs.Rows.{range, files_of}
use Rattle.pass_range.specs.Tables.{Row, file_in}
use Rattle.pass_range.specs.Lawful.{IsZero}
use Rattle.pass_graph.specs.Logged.{name_in}

-- a row of the block is among these
abbrev pub has_block : List Row → ℕ → ℕ → Bool
has_block rows pnode block = list_any (λ (row : Row). row.0.pnode == pnode && row.0.block == block) rows

-- the blocks of a file's rows
abbrev pub blocks_in : List Row → ℕ → List ℕ
blocks_in rows pnode = map (λ (row : Row). row.0.block) (filter (λ (row : Row). row.0.pnode == pnode) rows)

-- a file of the list into which these rows have been read
pub record IsFilled (list : List Record) (read : List Row) (file : StartFile) : Type 0 where
  pub version : file.node.version ≡ current_of list file.node.pnode
  pub name : file.name ≡ name_in (last_name_of list file.node.pnode)
  pub size : file.size ≡ size_of list file.node.pnode
  pub rows : file.rows.items ≡ blocks_in read file.node.pnode
  pub sized : length file.bytes.items ≡ size_of list file.node.pnode
  pub zero : (block : ℕ) → has_block read file.node.pnode block ≡ false → IsZero block file.bytes.items

-- the files of the list, in their order
pub record AreFilled (list : List Record) (read : List Row) (files : List StartFile) : Type 0 where
  pub order : map (λ (file : StartFile). file.node.pnode) files ≡ files_of list
  pub each : (i : ℕ) (file : StartFile) → slice_get files i ≡ Some file → IsFilled list read file

-- the ranges that were read have the bytes that the store area gives
abbrev pub AreRead : List Record → List Row → List ℕ → List StartFile → Type 0
AreRead list read store files = (i : ℕ) (file : StartFile) → slice_get files i ≡ Some file → (block : ℕ) → has_block read file.node.pnode block ≡ true
    → range block file.bytes.items ≡ found_there (place i block) (range_len (size_of list file.node.pnode) block) store

-- the bytes of the file of that number
abbrev pub bytes_in : List StartFile → ℕ → List ℕ
bytes_in files number = option_map_or (λ (file : StartFile). file.bytes.items) (slice_get files number) []

-- the file has bytes with the row's digest in its range, or the table hasn't the file
abbrev pub is_same : Table → List StartFile → Row → Bool
is_same table files row = option_map_or (λ (file : TableFile). bytes_eq (md5 (range row.0.block (bytes_in files file.number))) row.1) (file_in table row.0.pnode) true

-- the ranges of the rows that have another digest in the files
abbrev pub other_ranges : Table → List StartFile → List Row → List Range
other_ranges table files rows = map (λ (row : Row). row.0) (filter (λ row. not (is_same table files row)) rows)
