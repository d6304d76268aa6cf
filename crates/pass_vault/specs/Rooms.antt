-- The room that a session has in the log (this project's own rule).
use Rattle.std.specs.Prelude.{ℕ, ◌+◌, ◌*◌, ◌^◌, ◌≤◌, length}
use Rattle.pass_outside.specs.Moments.{Moment, IsAtEnd}
use Rattle.pass_log.specs.Records.{spellings}
use Rattle.pass_book.specs.Syncs.{durable}
use Rattle.pass_keep.specs.Kept.{records_to, ceilings_length}
use Rattle.pass_vault.specs.Vaulted.{Vaulted, story_of}

-- the greatest number of entries of a session
abbrev pub most_entries : ℕ
most_entries = 16777216

-- where the frame that raises the ceiling ends at most, over an image that ends at most at 2 ^ 38
abbrev pub first_place : ℕ
first_place = 2 ^ 38 + ceilings_length

-- A session's frames end at most here: an entry has at most 1,376 bytes of records, and the frame of a part with a record
-- has no more than twice the bytes of its records.
abbrev pub last_place : ℕ
last_place = first_place + 2 * (1376 * most_entries)

-- A vault's log has room for what is left of its session. While its disk goes on, only frames of durable entries stand there.
pub record IsRoomy {D : Type 0} (m : Moment) (v : Vaulted D) : Type 0 where
  pub bounded : v.place ≤ last_place
  pub room : m.faults ≤ v.opened → (IsAtEnd m → ⊥) → v.place ≤ first_place + 2 * length (spellings (records_to (story_of v) (durable v.syncs)))
