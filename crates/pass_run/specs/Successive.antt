-- Runs over one disk, one after the other. This project's own rule.
use Rattle.std.specs.Prelude.{ℕ, ◌≡◌, ◌+◌, ◌<◌, ◌≤◌, true, Contains, IsTrue, List, Some, is_some, length, slice_get}
use Rattle.pass_book.specs.declared.view.FileMark.{FileMark}
use Rattle.pass_entry.specs.declared.entry.Entry.{Entry}
use Rattle.pass_entry.specs.declared.entry.Synced.{Synced}
use Rattle.pass_entry.specs.declared.record.Record.{Record}
use Rattle.pass_keep.specs.Kept.{Story, list_to, source_to, HasRecords}
use Rattle.pass_outside.specs.Areas.{Image}
use Rattle.pass_outside.specs.Moments.{Moment}
use Rattle.pass_plain.specs.declared.start.Start.{Start}
use Rattle.pass_plain.specs.declared.start.StartFile.{StartFile}
use Rattle.pass_plain.specs.Files.{file_after}
use Rattle.pass_plain.specs.Records.{range_len}
use Rattle.pass_plain.specs.WellLogged.{size_of}
use Rattle.pass_range.specs.Places.{place}
use Rattle.pass_range.specs.Rows.{row_of, number_of, IsUnmatched}
use Rattle.pass_range.specs.Tables.{range_at, AreUnmatched}
use Rattle.pass_range.specs.declared.range.Range.{Range}
use Rattle.pass_trace.specs.declared.trace.TraceLine.{TraceLine}
use Rattle.pass_status.specs.declared.status.Status.{Status}
use Rattle.pass_run.specs.Stored.{HasEnded, IsOverStore, story_of}

-- a run from one moment of a disk to another that came to its end, with what it handed out
pub record EndedRun {D : Type 0} (view : D → Moment) (old new : D) : Type 0 where
  pub lines : List TraceLine
  pub list : List Record
  pub start : Start
  pub history : List Entry
  pub syncs : List Synced
  pub status : Status
  pub report : List ℕ
  pub ended : HasEnded (view old).calls (view old) (view new) lines list start history syncs status report

-- its session
abbrev pub story_of_run : {D : Type 0} {view : D → Moment} {old new : D} → EndedRun view old new → Story
story_of_run {D} {view} {old} {new} run = story_of (view old).calls (view old).seen.store run.list run.ended.opened run.lines run.history

-- the records behind it: those from before, its ceiling, and those of its history
abbrev pub list_behind : {D : Type 0} {view : D → Moment} {old new : D} → EndedRun view old new → List Record
list_behind run = list_to (story_of_run run) (length run.history)

-- the store area reaches to the end of each range that the list tells of
abbrev pub IsReached : List Record → List ℕ → Type 0
IsReached list store = (pnode block number : ℕ) → is_some (row_of list pnode block) ≡ true → number_of list pnode ≡ Some number
    → place number block + range_len (size_of list pnode) block ≤ length store

-- The second of two runs opens the records that the first left. Where the store area reached to the end of each range as the first began,
-- it opens each file with the bytes that the first left it, and the store area does so again. Behind it a crash leaves the records of both.
pub record HasFollowed {D : Type 0} (view : D → Moment) (first second third : D) (one : EndedRun view first second) (two : EndedRun view second third) : Type 0 where
  pub list : two.list ≡ list_behind one
  pub files : IsTrue (view first).tells → IsReached one.list (view first).seen.store → (number : ℕ) (file : StartFile) → slice_get two.ended.opened.files.items number ≡ Some file
      → file.bytes.items ≡ file_after (story_of_run one).session one.history file.node.pnode
  pub reached : IsReached one.list (view first).seen.store → IsReached two.list (view second).seen.store
  pub left : (c : Image) → (view third).may_leave c → HasRecords (list_behind two) c.log

-- What is opened of an image that a crash left

-- the records that a store opens with which reads the image, and the ranges of these of which it has other bytes than were recorded
pub record IsReopened (c : Image) (list : List Record) (unmatched : List Range) : Type 0 where
  pub records : HasRecords list c.log
  pub exact : AreUnmatched list c.store unmatched

-- behind a run that came to its end: all its records, and no range that it hadn't found so, where the store area reached to the end of each
pub record IsReopenedWhole {D : Type 0} (view : D → Moment) (old new : D) (run : EndedRun view old new) (list : List Record) (unmatched : List Range) : Type 0 where
  pub whole : list ≡ list_behind run
  pub found : IsReached run.list (view old).seen.store → (pnode block : ℕ) → Contains unmatched (range_at pnode block) → IsUnmatched run.list (view old).seen.store pnode block

-- a run from one moment of a disk to another that opened its store, whatever it came to, with what it handed out
pub record OverRun {D : Type 0} (view : D → Moment) (old new : D) : Type 0 where
  pub lines : List TraceLine
  pub list : List Record
  pub start : Start
  pub history : List Entry
  pub syncs : List Synced
  pub over : IsOverStore (view old).calls (view old) (view new) lines list start history syncs

abbrev pub story_of_over : {D : Type 0} {view : D → Moment} {old new : D} → OverRun view old new → Story
story_of_over {D} {view} {old} {new} run = story_of (view old).calls (view old).seen.store run.list run.over.opened run.lines run.history

-- since a sync: the records of the first entries, at least of those below the sync, and no range of its file whose row comes from one of these
pub record IsReopenedSince (s : Story) (x : Synced) (f : FileMark) (list : List Record) (unmatched : List Range) : Type 0 where
  pub count : ℕ
  pub enough : x.entries ≤ count
  pub within : count ≤ length s.history
  pub told : list ≡ list_to s count
  pub matched : (block at : ℕ) → source_to s count f.pnode block ≡ Some at → at < x.entries → Contains unmatched (range_at f.pnode block) → ⊥
