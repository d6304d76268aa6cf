-- Which files have dirty blocks, and what makes all of them durable.
use Rattle.std.specs.Prelude.{◌≡◌, ◌⊎◌, ℕ, ◌<◌, true, false, List, [], ◌∷◌, ◌++◌, Option, Some, None, length, slice_get}
use mathlib.Core.List.{IsPrefix}
use Rattle.pass_entry.specs.Limits.{block_count}
use Rattle.pass_entry.specs.declared.entry.Entry.{Entry}
use Rattle.pass_plain.specs.Lawful.{AgreeOn}
use Rattle.pass_plain.specs.Legal.{IsLegal}
use Rattle.pass_plain.specs.Sessions.{Session}
use Rattle.pass_plain.specs.Sound.{IsSound}
use Rattle.pass_book.specs.Numbers.{IsFileNumber}
use Rattle.pass_book.specs.declared.view.VaultSync.{VaultSync}
use Rattle.pass_clean.specs.Cleaned.{is_dirty}
use Rattle.pass_vault.specs.Vaulted.{HasWaiting, Vaulted, flushed, file_synced, real_syncs}
use Rattle.pass_vault.specs.declared.vault.Receipt.{Receipt}
use Rattle.pass_file.specs.Desks.{FileDeskView}
use Rattle.pass_safe.specs.Commits.{flushed_to, saved_to}

-- the file has a number in the data area
abbrev pub HasNumber : Session → List Entry → ℕ → Type 0
HasNumber session history file = (number : ℕ) × IsFileNumber session history file number

-- some block of the file is dirty after the history, by these syncs
abbrev pub HasDirty : Session → List Entry → List VaultSync → ℕ → Type 0
HasDirty session history syncs file = (block : ℕ) × (block < block_count) × (is_dirty session history syncs file block ≡ true)

-- some is, or some of its blocks wait in the vault, or some block was written there and isn't synced
abbrev pub HasUnwritten : {D : Type 0} → Session → FileDeskView → Vaulted D → Type 0
HasUnwritten session f v = HasDirty session f.seen f.syncs f.what ⊎ HasWaiting v f.number

-- none is
abbrev pub IsClean : Session → List Entry → List VaultSync → ℕ → Type 0
IsClean session history syncs file = (block : ℕ) → block < block_count → is_dirty session history syncs file block ≡ false

-- a settle made no sync, or one of the file's data, with this receipt
abbrev pub settled_to : {D : Type 0} → Vaulted D → Vaulted D → ℕ → ℕ → Option Receipt → Vaulted D
settled_to old new what number None = record old { disk = new.disk }
settled_to old new what number (Some r) = saved_to old new what number r

-- after the entries that a file has seen were made durable
pub record HasSettled {D : Type 0} (f : FileDeskView) (old new : Vaulted D) (r : Option Receipt) : Type 0 where
  pub calls : ℕ
  pub vault : new ≡ settled_to (flushed_to old new f.seen calls) new f.what f.number r

-- each of these files has at most one sync more, of so many entries, in the order of the files
abbrev pub AreSettled : ℕ → List FileDeskView → List VaultSync → List VaultSync → Type 0
AreSettled entries [] old new = new ≡ old
AreSettled entries (f ∷ files) old new =
    AreSettled entries files old new ⊎ ((calls : ℕ) × AreSettled entries files (old ++ file_synced f.what f.number calls entries ∷ []) new)

-- the file is one of these
pub record IsAmong (file : ℕ) (files : List FileDeskView) : Type 0 where
  pub i : ℕ
  pub f : FileDeskView
  pub is : slice_get files i ≡ Some f
  pub same : f.what ≡ file

-- each file with a number after the history is one of these, or no entry is on it
abbrev pub AreAll : Session → List Entry → List FileDeskView → Type 0
AreAll session history files = (file number : ℕ) → IsFileNumber session history file number → IsAmong file files ⊎ AgreeOn file [] history

-- a list's last sync has these numbers
pub record EndsWith (calls entries : ℕ) (ss : List VaultSync) : Type 0 where
  pub front : List VaultSync
  pub last : VaultSync
  pub list : ss ≡ front ++ last ∷ []
  pub called : last.calls ≡ calls
  pub has : last.entries ≡ entries

-- A vault has seen the whole history and made it durable, and then the dirty blocks of these files. The receipt has the numbers of
-- its last sync that is no staging.
pub record IsDurable {D : Type 0} (history : List Entry) (files : List FileDeskView) (old new : Vaulted D) (r : Receipt) : Type 0 where
  pub seen : new.seen ≡ history
  pub calls : ℕ
  pub order : AreSettled (length history) files (old.syncs ++ flushed calls (length history) ∷ []) new.syncs
  pub last : EndsWith r.calls r.entries (real_syncs new.syncs)
  pub all : r.entries ≡ length history

-- only a file with a number has dirty blocks
abbrev pub OwnerLaw : Type 0
OwnerLaw = (session : Session) → IsSound session → (history : List Entry) → IsLegal session history → (syncs : List VaultSync) (file block : ℕ) → is_dirty session history syncs file block ≡ true
    → HasNumber session history file

-- a block that is clean stays so by more syncs
abbrev pub StaysLaw : Type 0
StaysLaw = (session : Session) (history : List Entry) (ss us : List VaultSync) (file block : ℕ) → IsPrefix ss us → is_dirty session history ss file block ≡ false → is_dirty session history us file block ≡ false

-- no block is dirty of a file on which no entry is
abbrev pub UntouchedLaw : Type 0
UntouchedLaw = (session : Session) (history : List Entry) (syncs : List VaultSync) (file block : ℕ) → AgreeOn file [] history → is_dirty session history syncs file block ≡ false
