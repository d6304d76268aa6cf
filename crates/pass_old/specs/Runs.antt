-- How a run whose file versions an archive keeps is judged, and what it leaves of both disks. This project's own rule.
use Rattle.std.specs.Prelude.{ℕ, ◌≡◌, ◌≢◌, ◌⊎◌, ◌+◌, ◌<◌, ◌≤◌, ◌^◌, IsTrue, List, [], Ok, Some}
use Rattle.pass_entry.specs.declared.entry.Entry.{Entry}
use Rattle.pass_entry.specs.declared.objects.Node.{Node}
use Rattle.pass_entry.specs.declared.record.Record.{Record}
use Rattle.pass_log.specs.Records.{Held, image_of}
use Rattle.pass_outside.specs.Areas.{Image}
use Rattle.pass_outside.specs.Moments.{Moment}
use Rattle.pass_plain.specs.declared.start.Start.{Start}
use Rattle.pass_plain.specs.Legal.{session_of}
use Rattle.pass_plain.specs.Sound.{IsSound}
use Rattle.pass_recover.specs.declared.fault.OpenFault.{OpenFault}
use Rattle.pass_recover.specs.Faults.{LogHas, IsCauseOf}
use Rattle.pass_recover.specs.Later.{IsLeftAlone}
use Rattle.pass_recover.specs.Starts.{IsStartOf, HasBytes}
use Rattle.pass_recover.specs.Syncs.{LeavesRead}
use Rattle.pass_trace.specs.declared.limits.Scale.TheVariants.{Usual}
use Rattle.pass_trace.specs.TraceLines.{objects_of}
use Rattle.pass_trace.specs.Traces.{trace_of}
use Rattle.pass_status.specs.declared.status.Status.{Status}
use Rattle.pass_status.specs.declared.status.Status.TheVariants as status
use Rattle.pass_status.specs.Statuses.{status_of_opening}
use Rattle.pass_run.specs.Ends.{IsEmptyStart}
use Rattle.pass_run.specs.Stored.{IsEnd}
use Rattle.pass_cli.specs.Answers.{Outcome, IsTraced, IsRefusal, HasRun, IsUnrecorded, IsRecorded}
use Rattle.pass_leaf.specs.declared.fault.OldFault.{OldFault}
use Rattle.pass_leaf.specs.declared.fault.OldFault.TheVariants as faults
use Rattle.pass_leaf.specs.Contents.{content_of, last_version}
use Rattle.pass_leaf.specs.Keeping.{FileVersion}
use Rattle.pass_leaf.specs.Laws.{IsAmong}
use Rattle.pass_leaf.specs.Archives.{Archive}
use Rattle.pass_past.specs.Pasts.{versions_of}
use Rattle.pass_past.specs.Keepings.{HasKept, HasStopped}
pub use Rattle.pass_prune.specs.Openings.{IsOpened, IsUnopenedArchive, IsHandedOut}
use Rattle.pass_old.specs.declared.status.OldStatus.{OldStatus}
use Rattle.pass_old.specs.declared.status.OldStatus.TheVariants as old_status
use Rattle.pass_old.specs.Retracings.{IsLike}
use Rattle.pass_old.specs.Statuses.{status_of_archive}

-- The store was recovered, and not written to: these are the records of its log area, and the start is the one that they tell, with the
-- bytes of the store area. A session may begin with it.
pub record IsRecovered (old new : Moment) (list : List Record) (start : Start) : Type 0 where
  pub logged : LogHas old (λ bytes. (held : Held) × (image_of bytes ≡ Ok held) × (held.list ≡ list))
  pub told : IsStartOf list start
  pub bytes : IsTrue old.tells → HasBytes list old.seen.store start
  pub sound : (objects : ℕ) → 1 ≤ objects → start.ceiling + objects < 2 ^ 48 → IsSound (session_of start objects)
  pub reads : new.seen ≡ old.seen
  pub durable : (c : Image) → new.may_leave c → c ≡ new.seen
  pub alone : IsLeftAlone old new
  pub since : LeavesRead old new
  pub tells : new.tells ≡ old.tells
  pub faults : new.faults ≡ old.faults
  pub later : old.calls + 2 ≤ new.calls

-- What was kept of a run over an archive

-- The run has not come to its end, or memory was refused: nothing was kept.
pub record IsNotKept {A : Type 0} (first last : Archive A) (ended : Status) (judged : OldStatus) : Type 0 where
  pub is : ((judged ≡ old_status.Same ended) × (IsEnd ended → ⊥)) ⊎ (judged ≡ old_status.Same status.NoMemory)
  pub archive : last ≡ first

-- What was run isn't what the store told: nothing was kept.
pub record IsUnlike {A : Type 0} (first last : Archive A) (list run : List Record) (start : Start) (objects : ℕ) (history : List Entry) (ended : Status) (judged : OldStatus) : Type 0 where
  pub is : judged ≡ old_status.Unlike
  pub ended_is : IsEnd ended
  pub differs : IsLike list run start objects history → ⊥
  pub archive : last ≡ first

-- Each version of the run that was above its file's last leaf has its content in the archive, what was kept before stays, no other
-- version gets a leaf, and a crash leaves all of it. The answer is the run's.
pub record IsKept {A : Type 0} (view : A → Moment) (first last : Archive A) (start : Start) (history : List Entry) (ended : Status) (judged : OldStatus) : Type 0 where
  pub is : judged ≡ old_status.Same ended
  pub kept : HasKept view first (versions_of (session_of start 0) history) last
  pub contents : (v : FileVersion) → IsAmong v (versions_of (session_of start 0) history) → last_version first.leaves v.node.pnode < v.node.version → content_of last.leaves v.node ≡ Some v.bytes
  pub stays : (node : Node) (bytes : List ℕ) → content_of first.leaves node ≡ Some bytes → content_of last.leaves node ≡ Some bytes
  pub others : (node : Node) → ((v : FileVersion) → IsAmong v (versions_of (session_of start 0) history) → v.node ≡ node → v.node.version ≤ last_version first.leaves v.node.pnode)
      → content_of last.leaves node ≡ content_of first.leaves node

-- Some of the first of them have, and then a fault came.
pub record IsSomeKept {A : Type 0} (view : A → Moment) (first last : Archive A) (start : Start) (history : List Entry) (judged : OldStatus) : Type 0 where
  pub fault : OldFault
  pub is : (node : Node) → judged ≡ status_of_archive fault node
  pub stopped : HasStopped view first (versions_of (session_of start 0) history) last fault
  pub stays : (node : Node) (bytes : List ℕ) → content_of first.leaves node ≡ Some bytes → content_of last.leaves node ≡ Some bytes

-- A run that came to its end, and is what the store told, is kept.
pub record IsLikeRun {A : Type 0} (view : A → Moment) (first last : Archive A) (list run : List Record) (start : Start) (objects : ℕ) (history : List Entry) (ended : Status) (judged : OldStatus) : Type 0 where
  pub ended_is : IsEnd ended
  pub like : IsLike list run start objects history
  pub kept : IsKept view first last start history ended judged ⊎ IsSomeKept view first last start history judged

abbrev pub IsKeptAs : {A : Type 0} → (A → Moment) → Archive A → Archive A → List Record → List Record → Start → ℕ → List Entry → Status → OldStatus → Type 0
IsKeptAs view first last list run start objects history ended judged =
    IsNotKept first last ended judged
    ⊎ (IsUnlike first last list run start objects history ended judged ⊎ IsLikeRun view first last list run start objects history ended judged)

-- How a run is judged, in this order

-- The source or its bytes were refused. Neither disk was touched.
pub record IsRefused {D A : Type 0} (bytes : List ℕ) (before after : ℕ) (old new : D) (archive archived : A) (judged : OldStatus) : Type 0 where
  pub refusal : Status
  pub is : judged ≡ old_status.Same refusal
  pub cause : IsRefusal Usual bytes before after refusal
  pub disk : new ≡ old
  pub archive_is : archived ≡ archive

-- The archive didn't open. The store wasn't touched.
pub record IsShut {D A : Type 0} (view : A → Moment) (bytes : List ℕ) (before after : ℕ) (old new : D) (archive archived : A) (judged : OldStatus) : Type 0 where
  pub traced : IsTraced Usual bytes before after
  pub fault : OldFault
  pub is : (node : Node) → judged ≡ status_of_archive fault node
  pub unopened : IsUnopenedArchive (view archive) (view archived) fault
  pub disk : new ≡ old

-- The store was refused. It wasn't written to, and nothing was kept.
pub record IsLost {D A : Type 0} (view : D → Moment) (archive_view : A → Moment) (old new : D) (first : Archive A) (archived : A) (judged : OldStatus) : Type 0 where
  pub fault : OpenFault
  pub is : judged ≡ old_status.Same (status_of_opening (view old).faults (view new).faults fault)
  pub cause : IsCauseOf (view old) (view new) fault
  pub alone : IsLeftAlone (view old) (view new)
  pub since : LeavesRead (view old) (view new)
  pub archive : IsHandedOut archive_view first archived

-- The store was recovered, and the trace of the bytes was run over it as recovery left it; and this was kept.
pub record HasRunOver {D A : Type 0} (view : D → Moment) (archive_view : A → Moment) (bytes : List ℕ) (before after : ℕ) (old new : D) (first : Archive A) (archived : A) (start : Start) (history : List Entry) (judged : OldStatus) (report : List ℕ) : Type 0 where
  pub mid : D
  pub list : List Record
  pub recovered_start : Start
  pub recovered : IsRecovered (view old) (view mid) list recovered_start
  pub out : Outcome
  pub start_is : out.start ≡ start
  pub history_is : out.history ≡ history
  pub ended : Status
  pub run : ended ≢ status.NoMemory → HasRun view Usual bytes before after mid new out ended report
  -- also where memory was refused
  pub recorded : IsUnrecorded (view mid) (view new) bytes out ⊎ IsRecorded (view mid) (view new) bytes out
  pub last : Archive A
  pub kept : IsKeptAs archive_view first last list out.list recovered_start (objects_of (trace_of bytes)) history ended judged
  pub archive : IsHandedOut archive_view last archived

-- nothing was run: no history is handed out, and an empty start
abbrev pub HasNothing : Start → List Entry → Type 0
HasNothing start history = (history ≡ []) × IsEmptyStart start

-- the archive has been opened, and then the store refused, or the trace run
pub record IsPastOpening {D A : Type 0} (view : D → Moment) (archive_view : A → Moment) (bytes : List ℕ) (before after : ℕ) (old new : D) (archive archived : A) (start : Start) (history : List Entry) (judged : OldStatus) (report : List ℕ) : Type 0 where
  pub traced : IsTraced Usual bytes before after
  pub first : Archive A
  pub opened : IsOpened archive_view archive first
  pub run : (HasNothing start history × IsLost view archive_view old new first archived judged) ⊎ HasRunOver view archive_view bytes before after old new first archived start history judged report

abbrev pub IsOldRun : {D A : Type 0} → (D → Moment) → (A → Moment) → List ℕ → ℕ → ℕ → D → D → A → A → Start → List Entry → OldStatus → List ℕ → Type 0
IsOldRun view archive_view bytes before after old new archive archived start history judged report =
    (HasNothing start history × IsRefused bytes before after old new archive archived judged)
    ⊎ ((HasNothing start history × IsShut archive_view bytes before after old new archive archived judged)
    ⊎ IsPastOpening view archive_view bytes before after old new archive archived start history judged report)

-- The start is what the store had: the records of its log area tell it, and its files have the bytes of the store area.
pub record IsStoredStart (old : Moment) (start : Start) : Type 0 where
  pub list : List Record
  pub logged : LogHas old (λ bytes. (held : Held) × (image_of bytes ≡ Ok held) × (held.list ≡ list))
  pub told : IsStartOf list start
  pub bytes : IsTrue old.tells → HasBytes list old.seen.store start

-- All that was to be kept is: each version of the run that was above its file's last leaf has its content in the archive, what was kept
-- before stays, no other version gets a leaf, a crash at any moment meanwhile leaves the leaves of some of the first versions, and all
-- whose append had returned by then, and each crash now leaves all.
pub record HasAll {A : Type 0} (view : A → Moment) (archive archived : A) (start : Start) (history : List Entry) : Type 0 where
  pub first : Archive A
  pub last : Archive A
  pub opened : IsOpened view archive first
  pub kept : HasKept view first (versions_of (session_of start 0) history) last
  pub contents : (v : FileVersion) → IsAmong v (versions_of (session_of start 0) history) → last_version first.leaves v.node.pnode < v.node.version → content_of last.leaves v.node ≡ Some v.bytes
  pub stays : (node : Node) (bytes : List ℕ) → content_of first.leaves node ≡ Some bytes → content_of last.leaves node ≡ Some bytes
  pub others : (node : Node) → ((v : FileVersion) → IsAmong v (versions_of (session_of start 0) history) → v.node ≡ node → v.node.version ≤ last_version first.leaves v.node.pnode)
      → content_of last.leaves node ≡ content_of first.leaves node
  pub handed_out : IsHandedOut view last archived
