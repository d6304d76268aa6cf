-- What a vault keeps between two calls (this project's own rule).
use Rattle.std.specs.Prelude.{◌≡◌, ℕ, ◌≤◌, false, List, ◌∷◌, map, take}
use Rattle.std.specs.List.{All}
use Rattle.pass_entry.specs.declared.entry.Synced.{Synced}
use Rattle.pass_entry.specs.declared.record.Record.{Record}
use Rattle.pass_outside.specs.Moments.{Moment}
use Rattle.pass_log.specs.Log.{log_end, log_opened}
use Rattle.pass_book.specs.declared.view.VaultSync.{VaultSync}
use Rattle.pass_book.specs.Syncs.{called, durable as durable_in}
use Rattle.pass_book.specs.Tokens.{VaultState}
use Rattle.pass_keep.specs.declared.keeper.Keeper.{Keeper}
use Rattle.pass_keep.specs.Kept.{Story, Noted}
use Rattle.pass_keep.specs.Keepers.{Past, no_file, disk_of, log_of, durable_of, IsKeeper}
use Rattle.pass_vault.specs.declared.opening.Opening.{Opening}
use Rattle.pass_clean.specs.Cleaned.{is_dirty}
use Rattle.pass_vault.specs.declared.unwritten.Unwritten.{Unwritten}
use Rattle.pass_vault.specs.Vaulted.{Vaulted, story_of, noted_of, real_syncs, data_syncs}
use Rattle.pass_vault.specs.Waiting.{IsWaiting}
use Rattle.pass_vault.specs.Rooms.{IsRoomy}

-- as it was opened, each crash from then on leaves the session's ceiling: the disk has a sync of no entry there
abbrev pub opening : ℕ → Noted
opening calls = record { calls = calls; entries = 0; files = no_file }

abbrev pub past_of : {D : Type 0} → Vaulted D → Past
past_of v = record { story = story_of v; noted = opening v.ready ∷ map noted_of (real_syncs v.syncs) }

-- its list leaves the block of the file clean, after the durable entries
abbrev pub Listed : {D : Type 0} → Vaulted D → ℕ → ℕ → Type 0
Listed v file block = is_dirty v.book.session (take (durable_in v.syncs) v.seen) v.syncs file block ≡ false

-- its disk keeps what it has seen, by the syncs of its list that are no stagings
pub record IsVault {D : Type 0} (view : D → Moment) (v : Vaulted D) (k : Keeper D) : Type 0 where
  pub keeper : IsKeeper view (past_of v) k
  pub durable : durable_of k ≡ durable_in v.syncs
  pub counted : durable_in (real_syncs v.syncs) ≡ durable_in v.syncs
  pub late : All (λ s. v.ready ≤ s.calls) (real_syncs v.syncs)
  pub timely : called v.syncs ≤ (view (disk_of k)).calls
  pub waiting : IsWaiting (story_of v) (past_of v).noted (durable_in v.syncs) (view (disk_of k)) v.pool v.unsynced (called (data_syncs v.syncs)) v.opened (Listed v)
  pub roomy : IsRoomy (view v.disk) v

-- its parts, as contracts see them
abbrev pub valued : {D : Type 0} → (D → Moment) → Keeper D → VaultState → Opening D → Unwritten → Vaulted D
valued view k seat o u = record {
  book = seat.book;
  seen = seat.seen;
  syncs = seat.syncs;
  disk = disk_of k;
  before = o.before.value.items;
  store = (view o.disk.value).seen.store;
  ceiling = o.ceiling;
  since = o.since;
  ready = o.ready;
  opened = log_opened (log_of k);
  place = log_end (log_of k);
  pool = u.pool;
  unsynced = u.unsynced;
}

-- the session with which it is opened
abbrev pub begun_with : List Record → List ℕ → ℕ → VaultState → ℕ → Story
begun_with before store ceiling seat since = record { before = before; ceiling = ceiling; session = seat.book.session; history = seat.seen; start = since; store = store }

-- a sync as it is handed out
abbrev pub handed_of : VaultSync → Synced
handed_of s = record { calls = s.calls; entries = s.entries }
