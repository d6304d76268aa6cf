-- What contracts see of a file.
use Rattle.std.specs.Prelude.{◌≡◌, ℕ, ◌+◌, ◌*◌, ◌≤◌, ◌<◌, ◌&&◌, Bool, true, false, nat_le, if◌then◌else◌, List, [], length, get_or}
use Rattle.pass_entry.specs.Limits.{file_limit}
use Rattle.pass_entry.specs.declared.entry.Act.{Act}
use Rattle.pass_entry.specs.declared.entry.Act.TheVariants as act
use Rattle.pass_plain.specs.Lineages.{Lineage}
use Rattle.pass_plain.specs.Records.{block_size}
use Rattle.pass_plain.specs.Recording.{block_count, flags, is_change, is_digested_by}
use Rattle.pass_plain.specs.declared.start.StartFile.{StartFile}
use Rattle.pass_table.specs.Tables.{BlocksView}
pub use Rattle.pass_file.specs.BlockSets.{is_among}
use Rattle.pass_file.specs.BlockSets.{BlockSetView, IsRising, AreBelow}

-- its bytes, which of its blocks have a digest, which are dirty, its version, from how many more sources that may take, and up to which end it may grow
pub record FileView : Type 0 where
  pub bytes : List ℕ
  pub rows : List Bool
  pub dirty : List Bool
  pub lineage : Lineage
  pub spare : ℕ
  pub room : ℕ

-- the blocks whose flag is set, in ascending order
pub record AreSet (set : List Bool) (blocks : List ℕ) : Type 0 where
  pub rising : IsRising blocks
  pub are : (block : ℕ) → is_among blocks block ≡ get_or set block false

-- a file of which no block is dirty and which has room for nothing
abbrev pub clean_file : List ℕ → (ℕ → Bool) → Lineage → FileView
clean_file bytes has lineage = record { bytes = bytes; rows = flags has block_count; dirty = flags (λ _. false) block_count; lineage = lineage; spare = 0; room = 0 }

-- a file as an opening gives it
abbrev pub opened : StartFile → Bool → FileView
opened file marked = clean_file file.bytes.items (is_among file.rows.items) (record { node = file.node; marked = marked; sources = [] })

-- how far an act on a file reaches
abbrev pub end_of : Act → ℕ
end_of (act.Put out at bytes) = at + length bytes
end_of (act.Cut out size) = size
end_of _ = 0

-- what a file keeps: there is room in each of its parts while it has room, and no block lies behind its end
pub record IsFileState (bytes : BlocksView) (rows dirty : BlockSetView) (room : ℕ) : Type 0 where
  pub covered : room ≤ bytes.room
  pub limit : room ≤ file_limit
  pub small : length bytes.bytes ≤ file_limit
  pub places : 0 < room → (2 ≤ rows.room) × (3 ≤ dirty.room)
  pub rows_below : AreBelow rows.blocks (length bytes.bytes)
  pub dirty_below : AreBelow dirty.blocks (length bytes.bytes)

-- whether a block is dirty after an act on its file, by the file's sizes before and after, and whether it had a digest and was dirty
unfoldable pub dirty_by : ℕ → ℕ → Bool → Act → ℕ → Bool → Bool
dirty_by old new had a block was = if is_digested_by old new had a block then true else if is_change a && nat_le new (block * block_size) then false else was
