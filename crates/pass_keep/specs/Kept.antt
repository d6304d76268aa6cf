-- What a disk keeps of a session: its records, and the bytes of its files (this project's own rule).
use Rattle.std.specs.Prelude.{◌≡◌, ◌⊎◌, ℕ, ◌<◌, ◌≤◌, Bool, true, max, if◌then◌else◌, List, [], ◌∷◌, ◌++◌, length, map, take, slice_get, IsTrue, Option, Some, None, is_some, Ok}
use Rattle.pass_entry.specs.declared.entry.Entry.{Entry}
use Rattle.pass_entry.specs.declared.entry.Synced.{Synced}
use Rattle.pass_entry.specs.declared.record.Record.{Record}
use Rattle.pass_outside.specs.Areas.{Image}
use Rattle.pass_outside.specs.Moments.{Moment, IsAtEnd}
use Rattle.pass_plain.specs.Sessions.{Session}
use Rattle.pass_plain.specs.Files.{file_after}
use Rattle.pass_plain.specs.Records.{records_of, list_of}
use Rattle.pass_plain.specs.Legal.{IsLegal}
use Rattle.pass_plain.specs.Sound.{IsSound}
use Rattle.pass_log.specs.declared.log.Log.{Log}
use Rattle.pass_log.specs.Records.{image_of}
use Rattle.pass_log.specs.Log.{IsSettled}
use Rattle.pass_range.specs.Places.{place, stands_there, Holds}
use Rattle.pass_range.specs.Rows.{range, row_of, number_of}
use Rattle.pass_range.specs.Sources.{row_source}
use Rattle.pass_range.specs.Lawful.{Tells}

-- a session on a disk: the records before it, the ceiling to which it raises theirs, what it opened with, its history so far, the count of device
-- calls from which on its records are kept, and the bytes of the store area then
pub record Story : Type 0 where
  pub before : List Record
  pub ceiling : ℕ
  pub session : Session
  pub history : List Entry
  pub start : ℕ
  pub store : List ℕ

-- how many bytes the frame has at most that raises the ceiling for a session: eight records of 9 bytes each
abbrev pub ceilings_length : ℕ
ceilings_length = 77

-- it opened with what the records before it tell, and its history is legal
pub record IsStory (s : Story) : Type 0 where
  pub sound : IsSound s.session
  pub tells : Tells s.before s.session.start
  pub legal : IsLegal s.session s.history

-- the records of its first n entries
abbrev pub records_to : Story → ℕ → List Record
records_to s n = records_of s.session (take n s.history)

-- the session's list with these
abbrev pub list_to : Story → ℕ → List Record
list_to s n = list_of s.before s.ceiling s.session (take n s.history)

-- the entry of the first n that the row of a block comes from
abbrev pub source_to : Story → ℕ → ℕ → ℕ → Option ℕ
source_to s n pnode block = row_source s.session (take n s.history) pnode block

-- the bytes of a block's range after the first n
abbrev pub range_to : Story → ℕ → ℕ → ℕ → List ℕ
range_to s n pnode block = range block (file_after s.session (take n s.history) pnode)

-- the log area has these records
pub record HasRecords (list : List Record) (log : List ℕ) : Type 0 where
  pub place : ℕ
  pub is : image_of log ≡ Ok (record { list = list; end = place })

-- The store area has each range as the first n entries leave it whose row comes from an entry below its file's bound; the
-- file is told by its number.
abbrev pub AreKept : Story → ℕ → (ℕ → ℕ) → List ℕ → Type 0
AreKept s n bound store = (pnode block number at : ℕ) → source_to s n pnode block ≡ Some at → number_of (list_to s n) pnode ≡ Some number
    → at < bound number → Holds (place number block) (range_to s n pnode block) store

-- The store area has what it had as the session opened, up to its end then, in the place of each block whose row is still one
-- of the records before the session, after the first n entries; the file is told by its number.
abbrev pub AreOlder : Story → ℕ → List ℕ → Type 0
AreOlder s n store = (pnode block number : ℕ) → is_some (row_of (list_to s n) pnode block) ≡ true → source_to s n pnode block ≡ None → number_of (list_to s n) pnode ≡ Some number
    → Holds (place number block) (stands_there (place number block) s.store) store

-- A crash left the first entries, at least so many, these ranges of them, and the blocks from before.
pub record IsLeft (s : Story) (least : ℕ) (bound : ℕ → ℕ) (c : Image) : Type 0 where
  pub count : ℕ
  pub enough : least ≤ count
  pub within : count ≤ length s.history
  pub records : HasRecords (list_to s count) c.log
  pub kept : AreKept s count bound c.store
  pub older : AreOlder s count c.store

-- a crash left the records before the session, and the store area as it was opened
pub record IsBefore (s : Story) (c : Image) : Type 0 where
  pub records : HasRecords s.before c.log
  pub store : c.store ≡ s.store

-- nothing was written since the start: each crash leaves what the log area reads, and the store area as it was opened
abbrev pub IsUnwritten : Story → Moment → Type 0
IsUnwritten s m = IsTrue m.tells → (c : Image) → m.left_since s.start c → (c.log ≡ m.seen.log) × (c.store ≡ s.store)

-- since the start each crash leaves what was there before the session, or the session's records with some of its entries
pub record IsBegun (s : Story) (m : Moment) : Type 0 where
  pub earlier : s.start ≤ m.calls
  pub each : IsTrue m.tells → (c : Image) → m.left_since s.start c → IsBefore s c ⊎ IsLeft s 0 (λ number. 0) c

-- a sync that came: the count of device calls then, how many entries were durable, and the numbers of the files of which
-- no block was dirty
pub record Noted : Type 0 where
  pub calls : ℕ
  pub entries : ℕ
  pub files : ℕ → Bool

-- as it is handed out
abbrev pub synced_of : Noted → Synced
synced_of x = record { calls = x.calls; entries = x.entries }

-- neither number falls along the list
abbrev pub AreRising : List Synced → Type 0
AreRising syncs = (i j : ℕ) (x y : Synced) → i < j → slice_get syncs i ≡ Some x → slice_get syncs j ≡ Some y → (x.calls ≤ y.calls) × (x.entries ≤ y.entries)

-- The syncs are of their moment: none came behind this one, none has more entries than these, and neither number falls along
-- the list.
pub record AreTimed (m : Moment) (entries : ℕ) (syncs : List Synced) : Type 0 where
  pub earlier : (i : ℕ) (x : Synced) → slice_get syncs i ≡ Some x → x.calls ≤ m.calls
  pub within : (i : ℕ) (x : Synced) → slice_get syncs i ≡ Some x → x.entries ≤ entries
  pub rising : AreRising syncs

-- below this entry it covers the ranges of a file
abbrev pub bound_of : Noted → ℕ → ℕ
bound_of x number = if x.files number then x.entries else 0

-- below this one all syncs together do
abbrev pub covered : List Noted → ℕ → ℕ
covered [] number = 0
covered (x ∷ xs) number = max (bound_of x number) (covered xs number)

abbrev pub Every : (Noted → Type 0) → List Noted → Type 0
Every P [] = Unit {0}
Every P (x ∷ xs) = P x × Every P xs

-- Since a sync each crash leaves at least the entries that were durable then, and the ranges that it covers.
pub record IsKeptSince (s : Story) (m : Moment) (durable : ℕ) (x : Noted) : Type 0 where
  pub earlier : x.calls ≤ m.calls
  pub fewer : x.entries ≤ durable
  pub each : IsTrue m.tells → (c : Image) → m.left_since x.calls c → IsLeft s x.entries (bound_of x) c

-- What a disk, its log, the number of durable entries and the syncs are to each other, whatever the calls answered.
pub record IsKept (s : Story) (m : Moment) (log : Log) (durable : ℕ) (noted : List Noted) : Type 0 where
  pub settled : IsSettled log m
  pub within : durable ≤ length s.history
  pub reads : IsTrue m.tells → m.faults ≡ log.opened → (IsAtEnd m → ⊥) → HasRecords (list_to s durable) m.seen.log
  pub present : IsTrue m.tells → (c : Image) → m.left_since m.calls c → IsLeft s durable (covered noted) c
  pub past : Every (IsKeptSince s m durable) noted
  pub rising : AreRising (map synced_of noted)
  pub begun : IsBegun s m

-- the parts are the records of the entries from one place up to another, each part of whole entries
abbrev pub AreParts : Story → ℕ → ℕ → List (List Record) → Type 0
AreParts s from upto [] = (from ≤ upto) × (records_to s upto ≡ records_to s from)
AreParts s from upto (part ∷ parts) = (next : ℕ) × (from ≤ next) × (next ≤ upto) × (records_to s next ≡ records_to s from ++ part) × AreParts s next upto parts
