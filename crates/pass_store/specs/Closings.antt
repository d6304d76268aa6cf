-- What is left of a store that was closed, and what crashes leave of its disk. This project's own rule.
use Rattle.std.specs.Prelude.{◌≡◌, ℕ, ◌<◌, ◌≤◌, ◌++◌, ◌∷◌, List, [], IsTrue, Some, length, map, slice_get, take}
use mathlib.Core.List.{IsPrefix}
use Rattle.pass_entry.specs.declared.entry.Act.TheVariants as act
use Rattle.pass_entry.specs.declared.entry.Entry.{Entry}
use Rattle.pass_entry.specs.declared.entry.Synced.{Synced}
use Rattle.pass_outside.specs.Areas.{Image}
use Rattle.pass_outside.specs.Moments.{Moment}
use Rattle.pass_plain.specs.Lawful.{AgreeBy}
use Rattle.pass_plain.specs.Sessions.{Session}
use Rattle.pass_range.specs.Places.{place, Holds}
use Rattle.pass_range.specs.Rows.{IsUnmatched}
use Rattle.pass_book.specs.Numbers.{IsFileNumber}
use Rattle.pass_book.specs.Syncs.{AreNumbered, IsBacked}
use Rattle.pass_book.specs.Tokens.{BookId}
use Rattle.pass_book.specs.declared.view.FileMark.{FileMark}
use Rattle.pass_book.specs.declared.view.VaultSync.{VaultSync}
use Rattle.pass_keep.specs.Kept.{Story, list_to, source_to, range_to, AreOlder, AreTimed, HasRecords, IsBegun, IsLeft, bound_of}
use Rattle.pass_vault.specs.Vaulted.{noted_of}
use Rattle.pass_vault.specs.Vaults.{handed_of}
use Rattle.pass_vault.specs.declared.vault.Receipt.{Receipt}
use Rattle.pass_file.specs.Desks.{FileDeskView}
use Rattle.pass_safe.specs.Grounds.{Ground}
use Rattle.pass_safe.specs.Safes.{IsLost}
use Rattle.pass_answer.specs.declared.answer.CallEnd.{CallEnd}
use Rattle.pass_proc.specs.Ends.{TrailView}
use Rattle.pass_kept.specs.Stops.{IsFaultWith}

-- the session as its disk keeps it
abbrev pub story_at : BookId → Ground → List Entry → Story
story_at book laid history = record { before = laid.before; ceiling = laid.ceiling; session = book.session; history = history; start = laid.since; store = laid.store }

-- a sync of more than p entries and of at most q
pub record HasSyncBetween (p q : ℕ) (syncs : List Synced) : Type 0 where
  pub i : ℕ
  pub x : Synced
  pub is : slice_get syncs i ≡ Some x
  pub above : p < x.entries
  pub within : x.entries ≤ q

-- a call that asked for a sync by its entry at one place tells of it by its entry at a later one
pub record IsKeptCall (history : List Entry) (p q : ℕ) : Type 0 where
  pub keep : Entry
  pub kept : Entry
  pub fd : ℕ
  pub asked : slice_get history p ≡ Some keep
  pub told : slice_get history q ≡ Some kept
  pub later : p < q
  pub begins : keep.act ≡ act.Keep
  pub ends : kept.act ≡ act.Kept fd
  pub own : keep.who ≡ kept.who
  pub call : keep.number ≡ kept.number

-- Each entry that tells of a sync has it in the list: one that has the entry by which its call began, and none from its own place on.
abbrev pub IsBackedBy : List Entry → List Synced → Type 0
IsBackedBy history syncs = (p q : ℕ) → IsKeptCall history p q → HasSyncBetween p q syncs

-- The store area has each block of a file whose row comes from one of the first n entries that stands below this place, with the bytes that the
-- first n give it, and its range is matched.
abbrev pub HasData : Story → ℕ → ℕ → FileMark → List ℕ → Type 0
HasData s n below f store = (block at : ℕ) → source_to s n f.pnode block ≡ Some at → at < below
    → Holds (place f.number block) (range_to s n f.pnode block) store × (IsUnmatched (list_to s n) store f.pnode block → ⊥)

-- Since a sync each crash leaves the data of a file as far as the entries below the sync made it, however many entries it leaves: unless one from
-- there on that it leaves too has changed the block.
abbrev pub KeepsData : Story → Moment → Synced → FileMark → Type 0
KeepsData s m x f = IsTrue m.tells → (c : Image) → m.left_since x.calls c → (n : ℕ) → n ≤ length s.history → HasRecords (list_to s n) c.log → HasData s n x.entries f c.store

-- the sync of which such a call on a file tells: it has the entry by which the call began, none from its answer on, and the file's data
pub record HasFileKept (s : Story) (m : Moment) (syncs : List Synced) (p q : ℕ) (f : FileMark) : Type 0 where
  pub sync : HasSyncBetween p q syncs
  pub keeps : KeepsData s m sync.x f

-- each sync of a file of which the history tells has that file's data
abbrev pub AreFilesKept : Story → Moment → List Synced → Type 0
AreFilesKept s m syncs = (p q number : ℕ) (call : IsKeptCall s.history p q) → IsFileNumber s.session (take p s.history) call.keep.what number
    → HasFileKept s m syncs p q (record { pnode = call.keep.what; number = number })

-- Since the opening's two syncs each crash leaves what was there before the session, or its records with those of some of its
-- entries; since the store was opened, before its first sync, the latter; and since each sync at least as many as were durable then. A sync of a file keeps its
-- data. The syncs that are handed out are these, and of their moment; each of which an entry tells is among them, and is one of its file.
pub record IsClosed (s : Story) (ready : ℕ) (m : Moment) (syncs : List Synced) : Type 0 where
  pub begun : IsBegun s m
  pub early : ready ≤ m.calls
  pub opened : IsTrue m.tells → (c : Image) → m.left_since ready c → IsLeft s 0 (λ number. 0) c
  pub all : List VaultSync
  pub handed : syncs ≡ map handed_of all
  pub late : (i : ℕ) (x : VaultSync) → slice_get all i ≡ Some x → ready ≤ x.calls
  pub since : IsTrue m.tells → (i : ℕ) (x : VaultSync) → slice_get all i ≡ Some x → (c : Image) → m.left_since x.calls c → IsLeft s x.entries (bound_of (noted_of x)) c
  pub matched : (i : ℕ) (x : VaultSync) (f : FileMark) → slice_get all i ≡ Some x → x.file ≡ Some f → KeepsData s m (handed_of x) f
  pub numbered : AreNumbered s.session s.history all
  pub timed : AreTimed m (length s.history) syncs
  pub kept : IsBacked s.session s.history all

-- the sync of a receipt, as it is handed out
abbrev pub synced_as : Receipt → Synced
synced_as r = record { calls = r.calls; entries = r.entries }

-- The last sync has the receipt's numbers, and all entries. Since then a crash leaves all their records, has each range whose row comes
-- from one of them, with its bytes and matched, and leaves the data from before of every other.
pub record IsSettled (s : Story) (m : Moment) (syncs : List Synced) (r : Receipt) : Type 0 where
  pub front : List Synced
  pub are : syncs ≡ front ++ synced_as r ∷ []
  pub whole : r.entries ≡ length s.history
  pub records : IsTrue m.tells → (c : Image) → m.left_since r.calls c → HasRecords (list_to s (length s.history)) c.log
  pub matched : IsTrue m.tells → (c : Image) → m.left_since r.calls c → (file block at : ℕ)
      → source_to s (length s.history) file block ≡ Some at → IsUnmatched (list_to s (length s.history)) c.store file block → ⊥
  pub held : (f : FileMark) → IsFileNumber s.session s.history f.pnode f.number → IsTrue m.tells → (c : Image) → m.left_since r.calls c → HasData s (length s.history) (length s.history) f c.store
  pub older : IsTrue m.tells → (c : Image) → m.left_since r.calls c → AreOlder s (length s.history) c.store

-- Why not everything was settled: a device call failed since the store was opened, or memory was refused.
abbrev pub IsUnsettled : ℕ → Moment → CallEnd → Type 0
IsUnsettled opened m answer = IsFaultWith (λ first now. IsLost m opened (record { opened = first; found = now })) answer

-- the history begins with what the process had seen, and has no other entries by it
pub record IsTold (history : List Entry) (t : TrailView) : Type 0 where
  pub begins : IsPrefix t.seen history
  pub agrees : AgreeBy t.who t.seen history

-- the place of each of these files is its number
abbrev pub AreByNumber : Session → List Entry → List FileDeskView → Type 0
AreByNumber session history files = (number : ℕ) (f : FileDeskView) → slice_get files number ≡ Some f → IsFileNumber session history f.what number
