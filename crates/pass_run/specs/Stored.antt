-- What the run of a trace over a disk is. This project's own rule.
use Rattle.std.specs.Prelude.{ℕ, ◌+◌, ◌≡◌, ◌⊎◌, ◌↔◌, ◌<◌, ◌≤◌, true, Contains, IsTrue, List, [], ◌∷◌, ◌++◌, Option, Some, None, length, slice_get}
use Rattle.pass_book.specs.Numbers.{IsFileNumber}
use Rattle.pass_book.specs.declared.view.FileMark.{FileMark}
use Rattle.pass_entry.specs.declared.entry.Entry.{Entry}
use Rattle.pass_entry.specs.declared.entry.Synced.{Synced}
use Rattle.pass_entry.specs.declared.objects.Node.{Node}
use Rattle.pass_entry.specs.declared.record.Record.{Record}
use Rattle.pass_entry.specs.declared.record.Record.TheVariants as log
use Rattle.pass_graph.specs.Lawful.{IsFaithful}
use Rattle.pass_graph.specs.Openings.{session_list}
use Rattle.pass_graph.specs.Places.{node_at, source_at, is_fresh_at, is_freeze_at}
use Rattle.pass_keep.specs.Kept.{Story, list_to, source_to, HasRecords, AreOlder, IsBegun, AreTimed}
use Rattle.pass_outside.specs.Areas.{Image}
use Rattle.pass_outside.specs.Moments.{Moment}
use Rattle.pass_plain.specs.declared.start.Start.{Start}
use Rattle.pass_plain.specs.Histories.{made_object}
use Rattle.pass_plain.specs.Records.{records_of}
use Rattle.pass_plain.specs.Runs.{IsRun}
use Rattle.pass_plain.specs.Sessions.{Session}
use Rattle.pass_plain.specs.Sound.{IsSound}
use Rattle.pass_range.specs.Lawful.{Tells}
use Rattle.pass_range.specs.Rows.{IsUnmatched}
use Rattle.pass_recover.specs.declared.fault.OpenFault.{OpenFault}
use Rattle.pass_recover.specs.Faults.{LogHas}
use Rattle.pass_recover.specs.Starts.{IsStartOf, HasBytes}
pub use Rattle.pass_recover.specs.Syncs.{HasBothSyncs, LeavesRead}
use Rattle.pass_plain.specs.Outlines.{SameButBytes}
use Rattle.pass_report.specs.Reports.{report_of}
use Rattle.pass_trace.specs.TraceLines.{objects_of, plain_trace, session_of_trace}
use Rattle.pass_trace.specs.declared.trace.TraceLine.{TraceLine}
use Rattle.pass_status.specs.declared.status.Status.{Status}
use Rattle.pass_status.specs.declared.status.Status.TheVariants as status
use Rattle.pass_run.specs.Ends.{EndsAs, IsEmptyStart}
pub use Rattle.pass_session.specs.Judgements.{session_fault}
pub use Rattle.pass_recover.specs.Later.{IsLater, IsLeftAlone}
pub use Rattle.pass_session.specs.Openings.{IsListOf, IsBare, HasBegun}
pub use Rattle.pass_store.specs.Closings.{IsBackedBy, IsKeptCall, AreFilesKept, HasFileKept, HasData}

-- How the store is judged

-- a store with a fault is refused with it, and any other is run
abbrev pub IsStoreJudged : Option OpenFault → Status → Type 0
IsStoreJudged (Some fault) ended = ended ≡ status.BadStore fault
IsStoreJudged None ended = (ended ≡ status.Done) ⊎ (ended ≡ status.Stuck)

-- the status of a run that came to its end, with the whole report
abbrev pub IsEnd : Status → Type 0
IsEnd status.Done = Unit {0}
IsEnd status.Stuck = Unit {0}
IsEnd _ = ⊥

abbrev pub IsOfDisk : Status → Type 0
IsOfDisk (status.DiskFault opened now) = Unit {0}
IsOfDisk _ = ⊥

-- What was opened

-- The list is that of the log area as it read at that moment, `opened` the start that it tells, with the bytes that the store
-- area read then, and `start` is that start without those bytes.
pub record IsOpening (m : Moment) (list : List Record) (start opened : Start) : Type 0 where
  pub logged : LogHas m (IsListOf list)
  pub told : IsStartOf list opened
  pub files : Tells list opened
  pub bytes : IsTrue m.tells → HasBytes list m.seen.store opened
  pub outline : SameButBytes start opened
  pub bare : IsBare start

-- nothing was opened, and nothing recorded
pub record IsUnopened (list : List Record) (start : Start) (history : List Entry) (syncs : List Synced) : Type 0 where
  pub no_list : list ≡ []
  pub no_start : IsEmptyStart start
  pub no_history : history ≡ []
  pub no_syncs : syncs ≡ []

-- The opening was refused: nothing is handed out, and nothing was written. Since both syncs with which it opened a crash leaves what
-- was read, whatever the status. Unless a device call failed the disk reads as before.
pub record IsRefusedOpening (old new : Moment) (ended : Status) (list : List Record) (start : Start) (history : List Entry) (syncs : List Synced) : Type 0 where
  pub unended : IsEnd ended → ⊥
  pub nothing : IsUnopened list start history syncs
  pub alone : IsLeftAlone old new
  pub since : LeavesRead old new
  pub reads : (IsOfDisk ended → ⊥) → new.seen ≡ old.seen

-- The session's ceiling was to be raised, and no entry was made: nothing is handed out, and a crash leaves what was there before, or
-- that and the ceiling.
pub record IsHeldBack (old new : Moment) (lines : List TraceLine) (ended : Status) (list : List Record) (start : Start) (history : List Entry) (syncs : List Synced) : Type 0 where
  pub unended : IsEnd ended → ⊥
  pub nothing : IsUnopened list start history syncs
  pub begun : HasBegun old new (objects_of lines)

-- What was recorded

-- its records have a new version exactly where an entry freezes its object, and an edge from a target to a source exactly
-- where an IN is fresh
pub record AreExact (session : Session) (history : List Entry) : Type 0 where
  pub frozen : (n : Node) → Contains (records_of session history) (log.Version n) ↔ ((place : ℕ) × (is_freeze_at session history place ≡ true) × (node_at session history place ≡ Some n))
  pub linked : (target source : Node) → Contains (records_of session history) (log.Input target source)
      ↔ ((place : ℕ) × (is_fresh_at session history place ≡ true) × (node_at session history place ≡ Some target) × (source_at session history place ≡ Some source))

-- a run of the trace from that start, over a session that is sound, whose graph joins what its flows and the records before it join
pub record HasRecorded (list : List Record) (opened : Start) (lines : List TraceLine) (history : List Entry) : Type 0 where
  pub sound : IsSound (session_of_trace opened lines)
  pub run : IsRun (session_of_trace opened lines) (plain_trace lines) history
  pub graph : IsFaithful (session_list list (session_of_trace opened lines) history) list (session_of_trace opened lines) history
  pub exact : AreExact (session_of_trace opened lines) history

-- its end and its report
pub record HasReported (opened : Start) (lines : List TraceLine) (history : List Entry) (ended : Status) (text : List ℕ) : Type 0 where
  pub ends : EndsAs (session_of_trace opened lines) (plain_trace lines) history ended
  pub report : text ≡ report_of opened history lines

-- What crashes leave

-- The session of a run: its records are kept since the two syncs with which the store opened, behind so many device calls,
-- and `area` is what the store area read then.
abbrev pub story_of : ℕ → List ℕ → List Record → Start → List TraceLine → List Entry → Story
story_of calls area list opened lines history = record {
  before = list;
  ceiling = opened.ceiling + objects_of lines;
  session = session_of_trace opened lines;
  history = history;
  start = calls + 2;
  store = area;
}

-- a crash left the records of the session's first entries, at least so many, and the data from before of what none of them wrote
pub record HasFirst (s : Story) (least : ℕ) (c : Image) : Type 0 where
  pub count : ℕ
  pub enough : least ≤ count
  pub within : count ≤ length s.history
  pub records : HasRecords (list_to s count) c.log
  pub older : AreOlder s count c.store

-- Since the opening a crash leaves what was there before the session, or the records of its first entries; since a count that the disk has
-- reached, before each sync, the latter; and since each sync at least as many as were durable then. Each sync of a file of which the
-- history tells is one of these, since which a crash leaves that file's data as far as the entries below the sync made it. The syncs are of
-- their moment.
pub record IsStored (s : Story) (m : Moment) (syncs : List Synced) : Type 0 where
  pub begun : IsBegun s m
  pub ready : ℕ
  pub early : ready ≤ m.calls
  pub late : (i : ℕ) (x : Synced) → slice_get syncs i ≡ Some x → ready ≤ x.calls
  pub opened : IsTrue m.tells → (c : Image) → m.left_since ready c → HasFirst s 0 c
  pub timed : AreTimed m (length s.history) syncs
  pub since : IsTrue m.tells → (i : ℕ) (x : Synced) → slice_get syncs i ≡ Some x → (c : Image) → m.left_since x.calls c → HasFirst s x.entries c
  pub synced : AreFilesKept s m syncs

-- The last sync has all entries. Since then a crash leaves all their records, has each range whose row comes from one of them, with its bytes
-- and matched, and leaves the data from before of every other.
pub record IsSettledRun (s : Story) (m : Moment) (syncs : List Synced) : Type 0 where
  pub front : List Synced
  pub last : Synced
  pub are : syncs ≡ front ++ last ∷ []
  pub all : last.entries ≡ length s.history
  pub records : IsTrue m.tells → (c : Image) → m.left_since last.calls c → HasRecords (list_to s (length s.history)) c.log
  pub matched : IsTrue m.tells → (c : Image) → m.left_since last.calls c → (pnode block at : ℕ)
      → source_to s (length s.history) pnode block ≡ Some at → IsUnmatched (list_to s (length s.history)) c.store pnode block → ⊥
  pub held : (f : FileMark) → IsFileNumber s.session s.history f.pnode f.number → IsTrue m.tells → (c : Image) → m.left_since last.calls c
      → HasData s (length s.history) (length s.history) f c.store
  pub older : IsTrue m.tells → (c : Image) → m.left_since last.calls c → AreOlder s (length s.history) c.store

-- each object that the history makes has a number above the start's ceiling and up to the session's, above which the next
-- session's numbers begin
abbrev pub HaveNewNumbers : Story → Type 0
HaveNewNumbers s = (i n : ℕ) (e : Entry) → slice_get s.history i ≡ Some e → made_object e.act e.reply ≡ Some n → (s.session.start.ceiling < n) × (n ≤ s.ceiling)

-- What a run hands out

-- An opened store, with the history that was recorded over it and what of it stands on the disk: `old` is the moment at which the
-- run began, behind so many device calls, and `new` the one at which it ended. However it ended, the history is a run of the trace
-- so far: its first entry is there, and each process's calls stand once, in their order.
pub record IsOverStore (calls : ℕ) (old new : Moment) (lines : List TraceLine) (list : List Record) (start : Start) (history : List Entry) (syncs : List Synced) : Type 0 where
  pub opened : Start
  pub opening : IsOpening old list start opened
  pub some : 0 < length history
  pub recorded : HasRecorded list opened lines history
  pub stored : IsStored (story_of calls old.seen.store list opened lines history) new syncs
  pub numbered : HaveNewNumbers (story_of calls old.seen.store list opened lines history)

-- such a run that came to its end
pub record HasEnded (calls : ℕ) (old new : Moment) (lines : List TraceLine) (list : List Record) (start : Start) (history : List Entry) (syncs : List Synced) (ended : Status) (text : List ℕ) : Type 0 where
  pub opened : Start
  pub opening : IsOpening old list start opened
  pub recorded : HasRecorded list opened lines history
  pub reported : HasReported opened lines history ended text
  pub stored : IsStored (story_of calls old.seen.store list opened lines history) new syncs
  pub settled : IsSettledRun (story_of calls old.seen.store list opened lines history) new syncs
  pub numbered : HaveNewNumbers (story_of calls old.seen.store list opened lines history)
