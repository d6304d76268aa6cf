-- Which entry of a history the row of a block comes from (this project's own rule).
use Rattle.std.specs.Prelude.{ℕ, ◌==◌, ◌&&◌, nat_le, ◌*◌, if◌then◌else◌, List, [], ◌∷◌, length, Option, Some, None}
use Rattle.pass_entry.specs.declared.entry.Entry.{Entry}
use Rattle.pass_entry.specs.declared.record.Record.{Record}
use Rattle.pass_entry.specs.declared.record.Record.TheVariants as log
use Rattle.pass_plain.specs.Histories.{replay}
use Rattle.pass_plain.specs.Sessions.{Session}
use Rattle.pass_plain.specs.Records.{block_size, entry_records}

-- what records do to the row of one block: it stays, it is set to a digest, or it goes
pub data Touch : Type 0 where
  stays : Touch
  sets : List ℕ → Touch
  goes : Touch

abbrev pub touch_of : ℕ → ℕ → Record → Touch
touch_of pnode block (log.Size file size) = if file == pnode && nat_le size (block * block_size) then goes else stays
touch_of pnode block (log.Digest file one md5) = if file == pnode && one == block then sets md5 else stays
touch_of pnode block _ = stays

-- one touch and then another
abbrev pub and_then : Touch → Touch → Touch
and_then first stays = first
and_then first (sets digest) = sets digest
and_then first goes = goes

abbrev pub touch : ℕ → ℕ → List Record → Touch
touch pnode block [] = stays
touch pnode block (r ∷ rs) = and_then (touch_of pnode block r) (touch pnode block rs)

-- the row behind a touch
abbrev pub row_after : Touch → Option (List ℕ) → Option (List ℕ)
row_after stays row = row
row_after (sets digest) row = Some digest
row_after goes row = None

-- the place of the entry that set the row, behind an entry at this place
abbrev pub source_after : Touch → ℕ → Option ℕ → Option ℕ
source_after stays place source = source
source_after (sets digest) place source = Some place
source_after goes place source = None

-- The place of the entry of a history that the row of a block comes from; None where it has no row, or one from before.
abbrev pub row_source : Session → List Entry → ℕ → ℕ → Option ℕ
row_source session history pnode block =
    replay (λ past source e. source_after (touch pnode block (entry_records session past e)) (length past) source) [] None history
