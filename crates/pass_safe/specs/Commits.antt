-- What has become of a vault by the steps that make a history durable.
use Rattle.std.specs.Prelude.{◌≡◌, ◌⊎◌, ℕ, false, List, [], ◌∷◌, ◌++◌, length}
use mathlib.Core.List.{IsPrefix}
use Rattle.pass_entry.specs.declared.entry.Entry.{Entry}
use Rattle.pass_plain.specs.Sessions.{Session}
use Rattle.pass_vault.specs.Blocks.{AreSomeDirty}
use Rattle.pass_vault.specs.Pooled.{staged_all, without_file}
use Rattle.pass_vault.specs.Vaulted.{Vaulted, flushed, file_synced, file_staged}
use Rattle.pass_vault.specs.declared.vault.Receipt.{Receipt}
use Rattle.pass_file.specs.Desks.{FileDeskView}

-- it has seen a history and made it durable, by one sync of entries with this count of device calls
abbrev pub flushed_to : {D : Type 0} → Vaulted D → Vaulted D → List Entry → ℕ → Vaulted D
flushed_to old new seen calls = record old { seen = seen; disk = new.disk; place = new.place; syncs = old.syncs ++ flushed calls (length seen) ∷ [] }

abbrev pub HasFlushed : {D : Type 0} → List Entry → Vaulted D → Vaulted D → Type 0
HasFlushed seen old new = (calls : ℕ) × (new ≡ flushed_to old new seen calls)

-- or it has not: it may have seen more, up to this history at most
pub record HasNotFlushed {D : Type 0} (seen : List Entry) (old new : Vaulted D) : Type 0 where
  pub told : IsPrefix new.seen seen
  pub vault : new ≡ record old { seen = new.seen; disk = new.disk; place = new.place }

-- it has made the data of a file durable, by a sync with the numbers of a receipt: none of its blocks waits, and nothing is unsynced
abbrev pub saved_to : {D : Type 0} → Vaulted D → Vaulted D → ℕ → ℕ → Receipt → Vaulted D
saved_to old new what number r = record old { disk = new.disk; pool = without_file number old.pool; unsynced = false; syncs = old.syncs ++ file_synced what number r.calls r.entries ∷ [] }

-- or it has not: some blocks may be written
abbrev pub unsaved_to : {D : Type 0} → Vaulted D → Vaulted D → Vaulted D
unsaved_to old new = record old { disk = new.disk; unsynced = new.unsynced }

-- it has put blocks into its pool, some of which, or others in their place, may be written
abbrev pub staged_to : {D : Type 0} → Vaulted D → Vaulted D → ℕ → ℕ → ℕ → ℕ → List (ℕ × List ℕ) → Vaulted D
staged_to old new what number calls entries blocks = record old { disk = new.disk; pool = staged_all old.pool number blocks; unsynced = new.unsynced; syncs = old.syncs ++ file_staged what number calls entries blocks ∷ [] }

-- or not all of them, and the list has no staging
abbrev pub unstaged_to : {D : Type 0} → Vaulted D → Vaulted D → Vaulted D
unstaged_to old new = record old { disk = new.disk; pool = new.pool; unsynced = new.unsynced }

-- whatever a staging of a file has come to
abbrev pub left_by_staging : {D : Type 0} → Vaulted D → Vaulted D → Vaulted D
left_by_staging old new = record old { seen = new.seen; disk = new.disk; place = new.place; pool = new.pool; unsynced = new.unsynced; syncs = new.syncs }

-- so many dirty blocks of a file
pub record HasStaged {D : Type 0} (session : Session) (f : FileDeskView) (old new : Vaulted D) (n : ℕ) : Type 0 where
  pub blocks : List (ℕ × List ℕ)
  pub count : length blocks ≡ n
  pub dirty : AreSomeDirty session f.seen f.syncs f.what blocks
  pub calls : ℕ
  pub vault : new ≡ staged_to old new f.what f.number calls (length f.seen) blocks

-- after the entries it has made the data of a file durable, by a sync with the numbers of the receipt
pub record HasCommitted {D : Type 0} (f : FileDeskView) (old new : Vaulted D) (r : Receipt) : Type 0 where
  pub calls : ℕ
  pub vault : new ≡ saved_to (flushed_to old new f.seen calls) new f.what f.number r

-- or it has stopped before that: at the entries, or at the data
abbrev pub HasStopped : {D : Type 0} → List Entry → Vaulted D → Vaulted D → Type 0
HasStopped seen old new = HasNotFlushed seen old new ⊎ ((calls : ℕ) × (new ≡ unsaved_to (flushed_to old new seen calls) new))
