-- What a walk over a history keeps, so that it can give the records of the next entry.
use Rattle.std.specs.Prelude.{ℕ, ◌≡◌, ◌≤◌, ◌*◌, ◌==◌, Bool, true, false, not, ◌&&◌, ◌||◌, List, [], ◌∷◌, ◌++◌, Option, None, length, map, filter, zip, codes, nat_lt, if◌then◌else◌}
use Rattle.std.specs.Option.{MatchOption, option_map_or}
use Rattle.std.specs.List.{list_any, range_with_len}
use Rattle.std.specs.Ordering.{nat_cmp}
use Rattle.std.specs.BTreeMap.{BTreeMap, get}
use Rattle.pass_entry.specs.declared.entry.Entry.{Entry}
use Rattle.pass_entry.specs.declared.entry.Act.{Act}
use Rattle.pass_entry.specs.declared.entry.Act.TheVariants as act
use Rattle.pass_entry.specs.declared.entry.Reply.{Reply}
use Rattle.pass_entry.specs.declared.objects.Kind.TheVariants as kind
use Rattle.pass_entry.specs.declared.objects.Node.{Node}
use Rattle.pass_entry.specs.declared.record.Record.{Record}
use Rattle.pass_entry.specs.declared.record.Record.TheVariants as log
use Rattle.pass_entry.specs.Limits as limit
use Rattle.pass_plain.specs.Histories.{is_fault, is_own, pnode_of}
use Rattle.pass_plain.specs.Registries.{Names, registry_after}
use Rattle.pass_plain.specs.States.{registry_of}
use Rattle.pass_plain.specs.Sessions.{opening_bytes, opening_rows, is_opened, opening_version}
use Rattle.pass_plain.specs.Versions.{same_node, same_source, source_in, is_used, is_in, is_exec, always_freezes, is_fresh, is_freeze, node_at_entry}
use Rattle.pass_plain.specs.Legal.{session_of}
use Rattle.pass_plain.specs.Files.{file_after, file_act}
use Rattle.pass_plain.specs.Records.{block_size, range_len, has_row, is_written, digest_of, move_records, file_named, args_records, records_of}
use Rattle.pass_plain.specs.declared.start.Start.{Start}
use Rattle.pass_plain.specs.declared.contents.Content.{Content}
use Rattle.pass_plain.specs.declared.nodes.VersionStep.{VersionStep}
use Rattle.pass_plain.specs.declared.records.Recording.{Recording}

-- how many blocks a file has at most
unfoldable pub block_count : ℕ
block_count = limit.block_count

-- a block that had a digest gets a new one, by the file's sizes before and after: its part of the file has another length
abbrev pub is_resized : ℕ → ℕ → Bool → ℕ → Bool
is_resized old new had block = had && nat_lt (block * block_size) new && not (range_len old block == range_len new block)

-- a block gets a digest at an act
abbrev pub is_digested_by : ℕ → ℕ → Bool → Act → ℕ → Bool
is_digested_by old new had a block = is_written a block || is_resized old new had block

-- the digests of the first blocks of a file's new content
abbrev pub digests_by : ℕ → ℕ → List ℕ → (ℕ → Bool) → Act → ℕ → List Record
digests_by file old new had a count =
    map (digest_of file new) (filter (λ block. is_digested_by old (length new) (had block) a block) (range_with_len 0 count))

-- the size and the digests of a file after an act on it, by its content before and by which of its first blocks had one
abbrev pub content_by : ℕ → List ℕ → (ℕ → Bool) → Act → ℕ → List Record
content_by file old had a count =
    log.Size file (length (file_act old a)) ∷ digests_by file (length old) (file_act old a) had a count

-- whether each of the first blocks has a digest
abbrev pub flags : (ℕ → Bool) → ℕ → List Bool
flags has count = map has (range_with_len 0 count)

abbrev pub opened_row : Start → ℕ → ℕ → Bool
opened_row start file block = list_any (λ b. b == block) (opening_rows start file)

abbrev pub row_after : Start → List Entry → ℕ → ℕ → Bool
row_after start history file block = has_row (session_of start 0) history file block

abbrev pub bytes_after : Start → List Entry → ℕ → List ℕ
bytes_after start history file = file_after (session_of start 0) history file

-- the act changes the content of its file
abbrev pub is_change : Act → Bool
is_change (act.Put out at bytes) = true
is_change (act.Cut out size) = true
is_change _ = false

-- the entry changes the content of the file
abbrev pub changes : ℕ → Entry → Bool
changes file e = is_own file e && is_change e.act

-- no entry has changed the file
pub record IsUntouched (start : Start) (history : List Entry) (file : ℕ) : Type 0 where
  pub quiet : list_any (changes file) history ≡ false
  pub bytes : bytes_after start history file ≡ opening_bytes start file
  pub rows : (block : ℕ) → row_after start history file block ≡ opened_row start file block

-- the content is the file's after the history
pub record IsContent (start : Start) (history : List Entry) (file : ℕ) (c : Content) : Type 0 where
  pub bytes : c.bytes.items ≡ bytes_after start history file
  pub rows : c.rows.items ≡ flags (row_after start history file) block_count

-- the file is kept as it is after the history, or not kept and untouched
abbrev pub IsKept : Start → List Entry → BTreeMap ℕ Content → ℕ → Type 0
IsKept start history kept file = MatchOption (get nat_cmp kept file) (IsUntouched start history file) (IsContent start history file)

abbrev pub AreKept : Start → List Entry → BTreeMap ℕ Content → Type 0
AreKept start history kept = (file : ℕ) → IsKept start history kept file

-- the node is the one with which an object of the opening began
abbrev pub begins_with : Start → Node → Bool
begins_with start node = is_opened start node.pnode && node.version == opening_version start node.pnode

-- some entry on the node took from the source
abbrev pub takes_so : List Entry → List Node → Node → Option Node → Bool
takes_so history nodes here source = list_any (λ s. same_node s.1 here && same_source (source_in nodes s.0) source) (zip history nodes)

-- fresh and freeze by the node on which the entry stands, and by its source node
abbrev pub is_fresh_at : List Entry → List Node → Node → Option Node → Entry → Bool
is_fresh_at history nodes here source e = is_in e && (is_exec e.act || not (takes_so history nodes here source))

abbrev pub is_freeze_at : Start → List Entry → List Node → Node → Bool → Entry → Bool
is_freeze_at start history nodes here fresh e =
    not (is_fault e.reply) && (always_freezes e.act || (fresh && (is_used history nodes here || begins_with start here)))

-- what an entry makes of the version of its object: its node, whether it freezes, and the source where it is fresh
pub record IsVersionStep (start : Start) (history : List Entry) (nodes : List Node) (e : Entry) (s : VersionStep) : Type 0 where
  pub node : s.node ≡ node_at_entry (session_of start 0) history nodes e
  pub freezes : s.freezes ≡ is_freeze (session_of start 0) history nodes e
  pub source : s.source ≡ (if is_fresh (session_of start 0) history nodes e then source_in nodes e else None)

-- the records of a new version and of a new edge
abbrev pub version_record : VersionStep → List Record
version_record s = if s.freezes then log.Version s.node ∷ [] else []

abbrev pub input_record : VersionStep → List Record
input_record s = option_map_or (λ source. log.Input s.node source ∷ []) s.source []

abbrev pub step_records : VersionStep → List Record
step_records s = version_record s ++ input_record s

-- the records of an entry but for a file's size and digests
abbrev pub plain_records : Names → VersionStep → Reply → Act → List Record
plain_records names s reply (act.Bind name) = log.Object (pnode_of reply) kind.File ∷ log.Name (pnode_of reply) name ∷ []
plain_records names s reply (act.Mint k) = log.Object (pnode_of reply) k ∷ []
plain_records names s reply (act.Move from to) = move_records names from to
plain_records names s reply (act.Unbind name) = log.Name (file_named names name) [] ∷ []
plain_records names s reply (act.Tag attr value) = log.Attr s.node attr value ∷ []
plain_records names s reply (act.Exec out name args) = step_records s ++ log.Attr s.node (codes "EXE") name ∷ args_records s.node args
plain_records names s reply _ = step_records s

-- the records of a history, its registry and its changed files
pub record IsRecording (start : Start) (history : List Entry) (r : Recording) : Type 0 where
  pub registry : registry_of r.registry ≡ registry_after (session_of start 0) history
  pub made : r.registry.made ≤ length history
  pub files : AreKept start history r.files
  pub list : r.list.items ≡ records_of (session_of start 0) history
