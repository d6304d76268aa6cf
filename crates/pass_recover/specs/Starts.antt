-- The start that a list of records and the bytes of the store area give (this project's own rule).
use Rattle.std.specs.Prelude.{◌≡◌, ℕ, ◌<◌, ◌==◌, true, List, [], ◌∷◌, length, map, filter_map, is_some, Option, Some, None, slice_get, if◌then◌else◌}
use Rattle.std.specs.List.{list_any}
use Rattle.std.specs.Option.{option_map_or}
use Rattle.pass_entry.specs.declared.objects.Node.{Node}
use Rattle.pass_entry.specs.declared.objects.Kind.TheVariants as kind
use Rattle.pass_entry.specs.declared.record.Record.{Record}
use Rattle.pass_entry.specs.declared.record.Record.TheVariants as log
use Rattle.pass_graph.specs.Logged.{name_in}
use Rattle.pass_plain.specs.declared.start.Start.{Start}
use Rattle.pass_plain.specs.declared.start.StartFile.{StartFile}
use Rattle.pass_plain.specs.Records.{range_len}
use Rattle.pass_plain.specs.Registries.{same_kind}
use Rattle.pass_plain.specs.WellLogged.{ceiling_of, current_of, last_name_of, size_of}
use Rattle.pass_range.specs.Places.{place, found_there}
use Rattle.pass_range.specs.Rows.{range, row_of, files_of}
use Rattle.pass_range.specs.Lawful.{IsZero}

-- the app objects that a list makes, in their order
abbrev pub app_made : Record → Option ℕ
app_made (log.Object pnode k) = if same_kind k kind.App then Some pnode else None
app_made _ = None

abbrev pub apps_of : List Record → List ℕ
apps_of list = filter_map app_made list

-- an object at its current version
abbrev pub current_node : List Record → ℕ → Node
current_node list pnode = record { pnode = pnode; version = current_of list pnode }

-- what the list says of a file: its version, its last name and its size; the numbers of the blocks that have a row, in
-- ascending order; and as many bytes as its size, zero in a block without a row
pub record IsFileOf (list : List Record) (file : StartFile) : Type 0 where
  pub version : file.node.version ≡ current_of list file.node.pnode
  pub name : file.name ≡ name_in (last_name_of list file.node.pnode)
  pub size : file.size ≡ size_of list file.node.pnode
  pub ascending : (i j a b : ℕ) → slice_get file.rows.items i ≡ Some a → slice_get file.rows.items j ≡ Some b → i < j → a < b
  pub rows : (block : ℕ) → list_any (λ b. b == block) file.rows.items ≡ is_some (row_of list file.node.pnode block)
  pub sized : length file.bytes.items ≡ file.size
  pub zero : (block : ℕ) → row_of list file.node.pnode block ≡ None → IsZero block file.bytes.items

-- the start of a list: its last ceiling, its files in the order in which they were made, and its app objects with their
-- current versions
pub record IsStartOf (list : List Record) (start : Start) : Type 0 where
  pub ceiling : start.ceiling ≡ ceiling_of list
  pub files : map (λ file. file.node.pnode) start.files.items ≡ files_of list
  pub each : (i : ℕ) (file : StartFile) → slice_get start.files.items i ≡ Some file → IsFileOf list file
  pub apps : start.apps.items ≡ map (current_node list) (apps_of list)

-- in each block that has a row, a file of the start has the bytes that the store area gives there, zero past the area's end
abbrev pub HasBytes : List Record → List ℕ → Start → Type 0
HasBytes list store start = (number : ℕ) (file : StartFile) → slice_get start.files.items number ≡ Some file → (block : ℕ) → is_some (row_of list file.node.pnode block) ≡ true
    → range block file.bytes.items ≡ found_there (place number block) (range_len (size_of list file.node.pnode) block) store
