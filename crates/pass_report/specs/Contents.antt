-- The sizes of files and the blocks that have a digest, after a history.
use Rattle.std.specs.Prelude.{ℕ, ◌<◌, ◌≡◌, ◌==◌, Bool, List, length}
use Rattle.std.specs.Option.{option_map_or}
use Rattle.std.specs.List.{list_any}
use Rattle.std.specs.Ordering.{nat_cmp}
use Rattle.std.specs.BTreeMap.{get}
use Rattle.pass_entry.specs.Limits.{block_count}
use Rattle.pass_entry.specs.declared.entry.Entry.{Entry}
use Rattle.pass_entry.specs.declared.entry.Act.{Act}
use Rattle.pass_entry.specs.declared.entry.Act.TheVariants as act
use Rattle.pass_plain.specs.declared.start.Start.{Start}
use Rattle.pass_plain.specs.Sessions.{Session, opening_size, opening_rows}
use Rattle.pass_plain.specs.Files.{file_after}
use Rattle.pass_plain.specs.Records.{has_row, content_records}
use Rattle.pass_report.specs.declared.files.Files.{Files}
use Rattle.pass_report.specs.Digests.{row_at}

abbrev pub size_in : Start → Files → ℕ → ℕ
size_in start f file = option_map_or (λ b. b.size) (get nat_cmp f.files file) (opening_size start file)

abbrev pub row_in : Start → Files → ℕ → ℕ → Bool
row_in start f file block =
    option_map_or (λ b. row_at b.rows.items block) (get nat_cmp f.files file) (list_any (λ x. x == block) (opening_rows start file))

-- the file has the same size and the same rows
pub record IsSameFile (start : Start) (old new : Files) (file : ℕ) : Type 0 where
  pub size : size_in start new file ≡ size_in start old file
  pub rows : (block : ℕ) → block < block_count → row_in start new file block ≡ row_in start old file block

-- each file has its size and its rows
pub record AreFiles (start : Start) (session : Session) (history : List Entry) (f : Files) : Type 0 where
  pub sizes : (file : ℕ) → size_in start f file ≡ length (file_after session history file)
  pub rows : (file block : ℕ) → block < block_count → row_in start f file block ≡ has_row session history file block

-- how many records an entry has of the content of its file
abbrev pub content_count : Session → List Entry → Entry → Act → ℕ
content_count session past e (act.Put out at bytes) = length (content_records session past e)
content_count session past e (act.Cut out size) = length (content_records session past e)
content_count session past e _ = 0
