-- What the range table of every history is.
use Rattle.std.specs.Prelude.{◌≡◌, ◌⊎◌, ℕ, ◌+◌, ◌*◌, ◌<◌, ◌≤◌, ◌==◌, true, false, List, [], ◌∷◌, ◌++◌, length, take, map, filter, slice_index, is_some, Some, None}
use Rattle.pass_entry.specs.Limits.{block_count, kind_limit}
use Rattle.std.specs.List.{list_any}
use Rattle.md5.specs.Md5.{md5}
use Rattle.pass_entry.specs.declared.entry.Entry.{Entry}
use Rattle.pass_entry.specs.declared.objects.Kind.{Kind}
use Rattle.pass_entry.specs.declared.objects.Kind.TheVariants as kind
use Rattle.pass_entry.specs.declared.record.Record.{Record}
use Rattle.pass_outside.specs.Areas.{Torn, written}
use Rattle.pass_plain.specs.declared.start.Start.{Start}
use Rattle.pass_plain.specs.Sessions.{Session, opening_bytes, opening_rows, opening_size}
use Rattle.pass_plain.specs.Files.{file_after}
use Rattle.pass_plain.specs.Records.{block_size, range_len, has_row, entry_records, records_of, list_of}
use Rattle.pass_plain.specs.Registries.{same_kind, registry_after}
use Rattle.pass_plain.specs.Legal.{IsLegal}
use Rattle.pass_plain.specs.Sound.{IsSound}
use Rattle.pass_plain.specs.WellLogged.{size_of, IsWellLogged}
use Rattle.pass_range.specs.Places.{place, found_there, stands_there, Holds, IsApart}
use Rattle.pass_range.specs.Rows.{range, row_of, files_of, number_of, IsUnmatched}
use Rattle.pass_range.specs.Sources.{touch, source_after, row_source}

-- a list says of the files of a start what the start has: their order, their sizes, and which of their blocks have a row
pub record Tells (list : List Record) (start : Start) : Type 0 where
  pub files : files_of list ≡ map (λ file. file.node.pnode) start.files.items
  pub sizes : (pnode : ℕ) → size_of list pnode ≡ opening_size start pnode
  pub rows : (pnode block : ℕ) → is_some (row_of list pnode block) ≡ list_any (λ b. b == block) (opening_rows start pnode)

-- a store without records tells of a start without files
abbrev pub FirstTellsLaw : Type 0
FirstTellsLaw = (start : Start) → start.files.items ≡ [] → Tells [] start

-- Rows

-- the row of a block in a list comes from the entry at a place of a history: it is the digest of the block's range in the
-- file, which begins within the file, and the block has a row by the history
pub record IsSet (list : List Record) (session : Session) (history : List Entry) (pnode block at : ℕ) : Type 0 where
  pub below : at < length history
  pub row : row_of list pnode block ≡ Some (md5 (range block (file_after session history pnode)))
  pub limited : block < block_count
  pub begins : block * block_size < length (file_after session history pnode)
  pub has : has_row session history pnode block ≡ true

abbrev pub RowLaw : Type 0
RowLaw = (before : List Record) (ceiling : ℕ) (session : Session) (history : List Entry) (pnode block at : ℕ) → row_source session history pnode block ≡ Some at
    → IsSet (list_of before ceiling session history) session history pnode block at

-- what one entry more does to where a row comes from
abbrev pub StepLaw : Type 0
StepLaw = (session : Session) (history : List Entry) (e : Entry) (pnode block : ℕ)
    → row_source session (history ++ e ∷ []) pnode block ≡ source_after (touch pnode block (entry_records session history e)) (length history) (row_source session history pnode block)

-- a row that comes from below the place q is the one that was there after q entries, and its range has had the same bytes since
abbrev pub EarlierLaw : Type 0
EarlierLaw = (session : Session) (history : List Entry) (pnode block at : ℕ) → row_source session history pnode block ≡ Some at → (q : ℕ) → at < q → q ≤ length history
    → (row_source session (take q history) pnode block ≡ Some at)
    × (range block (file_after session history pnode) ≡ range block (file_after session (take q history) pnode))

-- a row from before that is there after a history was there after each front of it
abbrev pub OlderLaw : Type 0
OlderLaw = (before : List Record) (ceiling : ℕ) (session : Session) (history : List Entry) (pnode block : ℕ) (digest : List ℕ)
    → row_of (list_of before ceiling session history) pnode block ≡ Some digest → row_source session history pnode block ≡ None → (q : ℕ)
    → (row_of (list_of before ceiling session (take q history)) pnode block ≡ Some digest) × (row_source session (take q history) pnode block ≡ None)

-- entries without records change no row
abbrev pub QuietLaw : Type 0
QuietLaw = (session : Session) (history : List Entry) (q : ℕ) → q ≤ length history → length (records_of session history) ≡ length (records_of session (take q history))
    → (pnode block : ℕ) → row_source session history pnode block ≡ row_source session (take q history) pnode block

-- a block has a row in the session's list exactly where it has one by the history; it begins within its file
abbrev pub HasRowLaw : Type 0
HasRowLaw = (before : List Record) (ceiling : ℕ) (session : Session) → IsSound session → Tells before session.start → (history : List Entry) → IsLegal session history
    → (pnode block : ℕ)
    → (is_some (row_of (list_of before ceiling session history) pnode block) ≡ has_row session history pnode block)
    × (has_row session history pnode block ≡ true → block * block_size < length (file_after session history pnode))

-- a row that comes from no entry of the history is one from before, and its range has the bytes of the opening
abbrev pub BeforeLaw : Type 0
BeforeLaw = (before : List Record) (ceiling : ℕ) (session : Session) → IsSound session → Tells before session.start → (history : List Entry) → IsLegal session history
    → (pnode block : ℕ) → row_source session history pnode block ≡ None
    → (row_of (list_of before ceiling session history) pnode block ≡ None)
    ⊎ ((row_of (list_of before ceiling session history) pnode block ≡ row_of before pnode block)
    × (range block (file_after session history pnode) ≡ range block (opening_bytes session.start pnode)))

-- Files

abbrev pub SizeLaw : Type 0
SizeLaw = (before : List Record) (ceiling : ℕ) (session : Session) → IsSound session → Tells before session.start → (history : List Entry) (pnode : ℕ)
    → size_of (list_of before ceiling session history) pnode ≡ length (file_after session history pnode)

-- the files among objects, in their order
abbrev pub file_objects : List (ℕ × Kind) → List ℕ
file_objects objects = map (λ o. o.0) (filter (λ o. same_kind o.1 kind.File) objects)

-- the files of the session's list are those that its registry has, in their order
abbrev pub FilesLaw : Type 0
FilesLaw = (before : List Record) (ceiling : ℕ) (session : Session) → IsSound session → Tells before session.start → (history : List Entry) → IsLegal session history
    → files_of (list_of before ceiling session history) ≡ file_objects (registry_after session history).objects

-- a block that has a row is of a file with a number
abbrev pub NumberLaw : Type 0
NumberLaw = (before : List Record) (ceiling : ℕ) (session : Session) → IsSound session → Tells before session.start → (history : List Entry) → IsLegal session history
    → (pnode block : ℕ) → has_row session history pnode block ≡ true → (number : ℕ) × (number_of (list_of before ceiling session history) pnode ≡ Some number)

-- a number stays, two files have two, and in a well logged list it is below 1,024
abbrev pub NumbersLaw : Type 0
NumbersLaw = (list : List Record) (pnode number : ℕ) → number_of list pnode ≡ Some number
    → ((more : List Record) → number_of (list ++ more) pnode ≡ Some number)
    × ((other : ℕ) → number_of list other ≡ Some number → other ≡ pnode)
    × (IsWellLogged list → number < kind_limit)

-- a row of a well logged list is of a file with a number, and its block begins within the file's size
abbrev pub WellLoggedRowLaw : Type 0
WellLoggedRowLaw = (list : List Record) → IsWellLogged list → (pnode block : ℕ) → is_some (row_of list pnode block) ≡ true
    → (is_some (number_of list pnode) ≡ true) × (block * block_size < size_of list pnode)

-- Areas

-- the ranges of two blocks have no byte in common
abbrev pub PlacesLaw : Type 0
PlacesLaw = (number block other two len other_len : ℕ) → block < block_count → two < block_count → (number ≡ other → block ≡ two → ⊥) → len ≤ block_size → other_len ≤ block_size
    → IsApart (place number block) len (place other two) other_len

-- bytes that were written are there, and a write leaves those apart from it, also one that failed
abbrev pub WriteLaw : Type 0
WriteLaw = (old : List ℕ) (at : ℕ) (bytes : List ℕ)
    → Holds at bytes (written old at bytes)
    × ((new : List ℕ) → Torn at (length bytes) old new → (other : ℕ) (kept : List ℕ) → IsApart other (length kept) at (length bytes) → Holds other kept old → Holds other kept new)

-- what an area had of a block is found there as long as it stands there, but for what lies past the area's end
abbrev pub StandsLaw : Type 0
StandsLaw = (at len : ℕ) (old new : List ℕ) → Holds at (stands_there at old) new → len ≤ block_size → at + len ≤ length old → found_there at len new ≡ found_there at len old

-- a range of which the area has the bytes isn't unmatched
abbrev pub HeldLaw : Type 0
HeldLaw = (list : List Record) (store bytes : List ℕ) (pnode block number : ℕ) → number_of list pnode ≡ Some number → row_of list pnode block ≡ Some (md5 bytes)
    → length bytes ≡ range_len (size_of list pnode) block → Holds (place number block) bytes store → IsUnmatched list store pnode block → ⊥

-- nor is one that comes from an entry of a history, where the area has the bytes of the file
abbrev pub MatchedLaw : Type 0
MatchedLaw = (before : List Record) (ceiling : ℕ) (session : Session) → IsSound session → Tells before session.start → (history : List Entry) (pnode block at number : ℕ)
    → row_source session history pnode block ≡ Some at → number_of (list_of before ceiling session history) pnode ≡ Some number
    → (store : List ℕ) → Holds (place number block) (range block (file_after session history pnode)) store
    → IsUnmatched (list_of before ceiling session history) store pnode block → ⊥

-- each byte of a content that lies in a block is zero
abbrev pub IsZero : ℕ → List ℕ → Type 0
IsZero block content = (at : ℕ) → block * block_size ≤ at → at < (block + 1) * block_size → slice_index content at ≡ 0

-- a block without a row is all zero bytes
abbrev pub ZeroLaw : Type 0
ZeroLaw = (session : Session) → IsSound session → (history : List Entry) (pnode block : ℕ) → has_row session history pnode block ≡ false
    → IsZero block (file_after session history pnode)

-- The bytes with which a file opens over a store area: as many as its size; in a block with a row what the area gives
-- there, zero bytes past the area's end; elsewhere zero.
pub record IsOpened (list : List Record) (store : List ℕ) (pnode : ℕ) (bytes : List ℕ) : Type 0 where
  pub sized : length bytes ≡ size_of list pnode
  pub ranges : (number block : ℕ) → number_of list pnode ≡ Some number → is_some (row_of list pnode block) ≡ true
      → range block bytes ≡ found_there (place number block) (range_len (size_of list pnode) block) store
  pub zero : (block : ℕ) → row_of list pnode block ≡ None → IsZero block bytes

-- where the area has each range of a file, the file opens with its content
abbrev pub OpenedLaw : Type 0
OpenedLaw = (before : List Record) (ceiling : ℕ) (session : Session) → IsSound session → Tells before session.start → (history : List Entry) → IsLegal session history
    → (pnode number : ℕ) → number_of (list_of before ceiling session history) pnode ≡ Some number
    → (store : List ℕ) → ((block : ℕ) → has_row session history pnode block ≡ true → Holds (place number block) (range block (file_after session history pnode)) store)
    → IsOpened (list_of before ceiling session history) store pnode (file_after session history pnode)
