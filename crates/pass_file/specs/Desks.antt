-- What contracts see of a file under its lock, and the entries on it.
use Rattle.std.specs.Prelude.{◌≡◌, ℕ, ◌≤◌, List, [], ◌∷◌, ◌++◌, length, Some, None}
use Rattle.pass_entry.specs.declared.entry.Act.{Act}
use Rattle.pass_entry.specs.declared.entry.CallName.{CallName}
use Rattle.pass_entry.specs.declared.entry.CallName.TheVariants as calls
use Rattle.pass_entry.specs.declared.entry.Entry.{Entry}
use Rattle.pass_entry.specs.declared.entry.Reply.{Reply}
use Rattle.pass_entry.specs.declared.entry.Reply.TheVariants as answer
use Rattle.pass_entry.specs.declared.record.Record.{Record}
use Rattle.pass_plain.specs.Files.{file_after}
use Rattle.pass_plain.specs.Records.{content_records, has_row}
use Rattle.pass_plain.specs.Recording.{block_count, flags}
use Rattle.pass_plain.specs.Sessions.{Session}
use Rattle.pass_version.specs.States.{VersionState}
use Rattle.pass_book.specs.Names.{name, Listed}
use Rattle.pass_book.specs.Numbers.{IsFileNumber}
use Rattle.pass_book.specs.Tokens.{BookId, DeskState}
use Rattle.pass_book.specs.declared.view.Role.TheVariants as role
use Rattle.pass_book.specs.declared.view.VaultSync.{VaultSync}
use Rattle.pass_clean.specs.Cleaned.{is_dirty}
use Rattle.pass_flow.specs.Entering.{IsVersioned}
use Rattle.pass_flow.specs.Flows.{ObjectView}
use Rattle.pass_file.specs.FileViews.{FileView}

-- its content is that of the definitions after a history, and its dirty blocks are those by these syncs, each of which cleans at its entries
pub record IsFileAfter (session : Session) (seen : List Entry) (syncs : List VaultSync) (what : ℕ) (f : FileView) : Type 0 where
  pub bytes : f.bytes ≡ file_after session seen what
  pub rows : f.rows ≡ flags (has_row session seen what) block_count
  pub dirty : f.dirty ≡ flags (is_dirty session seen syncs what) block_count

-- its version, and from how many more sources that may take
abbrev pub versions_of : FileView → VersionState
versions_of f = record { lineage = f.lineage; spare = f.spare }

-- a file with its desk and its number is the one of the definitions after what was seen of it
pub record IsFile (book : BookId) (d : DeskState) (n : ℕ) (f : FileView) : Type 0 where
  pub version : IsVersioned book d (versions_of f)
  pub content : IsFileAfter book.session d.seen d.syncs d.what f
  pub number : IsFileNumber book.session d.seen d.what n

-- a file under its lock: its pnode, its number in the data area, what was seen of it, and for what there is room
pub record FileDeskView : Type 0 where
  pub what : ℕ
  pub number : ℕ
  pub seen : List Entry
  pub syncs : List VaultSync
  pub spare : ℕ
  pub room : ℕ

-- what it shows as an object with versions
abbrev pub object_of : FileDeskView → ObjectView
object_of f = record { what = f.what; seen = f.seen; syncs = f.syncs; spare = f.spare }

-- an entry on an object
abbrev pub entry_on : ℕ → ℕ → ℕ → CallName → Act → Reply → Entry
entry_on what who number call a reply = record { who = who; number = number; call = call; what = what; act = a; reply = reply }

-- the size and the digests in the entry by which an act changes the content. They hang on the act alone: whose entry it is, and from where its bytes come, is all one for them
abbrev pub change_records : Session → List Entry → ℕ → Act → List Record
change_records session seen what a = content_records session seen (entry_on what 0 0 calls.Write a answer.Done)

-- The last sync of a list wrote the data of a file of this number for all entries that were seen, after the syncs of which the
-- file's desk knew.
pub record IsSyncedLast (what number : ℕ) (seen : List Entry) (known syncs : List VaultSync) : Type 0 where
  pub before : List VaultSync
  pub sync : VaultSync
  pub list : syncs ≡ before ++ sync ∷ []
  pub listed : Listed (name role.Desk what) known before
  pub file : sync.file ≡ Some (record { pnode = what; number = number })
  pub whole : sync.staged ≡ None
  pub all : length seen ≤ sync.entries

-- The last of a list is a staging of these blocks of a file of this number with all entries that were seen, after the syncs of
-- which the file's desk knew.
pub record IsStagedLast (what number : ℕ) (blocks : List ℕ) (seen : List Entry) (known syncs : List VaultSync) : Type 0 where
  pub before : List VaultSync
  pub sync : VaultSync
  pub list : syncs ≡ before ++ sync ∷ []
  pub listed : Listed (name role.Desk what) known before
  pub file : sync.file ≡ Some (record { pnode = what; number = number })
  pub these : sync.staged ≡ Some blocks
  pub all : length seen ≤ sync.entries
