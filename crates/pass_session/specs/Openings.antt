-- What an opening leaves of a disk, and what it reads there. This project's own rule.
use Rattle.std.specs.Prelude.{ℕ, ◌+◌, ◌≡◌, ◌≢◌, IsTrue, List, [], None, Some, Ok, slice_get}
use Rattle.pass_entry.specs.declared.record.Record.{Record}
use Rattle.pass_keep.specs.Kept.{Story, HasRecords, IsBegun}
use Rattle.pass_log.specs.Records.{Held, image_of}
use Rattle.pass_outside.specs.Moments.{Moment}
use Rattle.pass_plain.specs.declared.start.Start.{Start}
use Rattle.pass_plain.specs.declared.start.StartFile.{StartFile}
use Rattle.pass_plain.specs.Legal.{session_of}
use Rattle.pass_plain.specs.WellLogged.{ceiling_of}
use Rattle.pass_range.specs.Lawful.{Tells}
use Rattle.pass_recover.specs.declared.fault.OpenFault.{OpenFault}
use Rattle.pass_recover.specs.declared.fault.OpenFault.TheVariants.{DiskFault}
use Rattle.pass_recover.specs.Faults.{LogHas}
pub use Rattle.pass_recover.specs.Later.{IsLater, IsLeftAlone}
use Rattle.pass_recover.specs.Starts.{IsStartOf, HasBytes}
use Rattle.pass_recover.specs.Syncs.{LeavesRead}
use Rattle.pass_session.specs.Judgements.{session_fault}

-- the records are those of a log area's bytes over which a session begins
pub record IsListOf (list : List Record) (bytes : List ℕ) : Type 0 where
  pub held : Held
  pub image : image_of bytes ≡ Ok held
  pub list_is : held.list ≡ list
  pub unfaulted : session_fault bytes ≡ None

-- The list is that of the log area as it read at that moment, and the start is the one that it tells, with the bytes that the
-- store area read then.
pub record IsOpening (m : Moment) (list : List Record) (start : Start) : Type 0 where
  pub logged : LogHas m (IsListOf list)
  pub told : IsStartOf list start
  pub files : Tells list start
  pub bytes : IsTrue m.tells → HasBytes list m.seen.store start

-- the start has no bytes in its files
abbrev pub IsBare : Start → Type 0
IsBare start = (i : ℕ) (file : StartFile) → slice_get start.files.items i ≡ Some file → file.bytes.items ≡ []

-- nothing was written to a disk, and since both syncs with which it opened a crash leaves what was read; unless a device call failed
-- the disk reads as before
pub record IsUntouched (old new : Moment) (fault : OpenFault) : Type 0 where
  pub alone : IsLeftAlone old new
  pub since : LeavesRead old new
  pub reads : fault ≢ DiskFault → new.seen ≡ old.seen

-- The session that begins over the list, without an entry. Its records are kept since the two syncs with which the store opened,
-- and the store area read as it did at `old`.
abbrev pub story_of : Moment → List Record → Start → ℕ → Story
story_of old list start objects = record {
  before = list;
  ceiling = start.ceiling + objects;
  session = session_of start objects;
  history = [];
  start = old.calls + 2;
  store = old.seen.store;
}

-- The store was opened, and its ceiling was to be raised: a crash leaves what was there before, or that and the session's ceiling.
pub record HasBegun (old new : Moment) (objects : ℕ) : Type 0 where
  pub list : List Record
  pub start : Start
  pub opening : IsOpening old list start
  pub begun : IsBegun (story_of old list start objects) new

-- the log area has records whose last ceiling is this one
pub record HasCeiling (ceiling : ℕ) (log : List ℕ) : Type 0 where
  pub list : List Record
  pub records : HasRecords list log
  pub last : ceiling_of list ≡ ceiling
