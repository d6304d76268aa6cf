-- The frames of a standby's own log, and the first bad one (this project's own rule).
use Rattle.std.specs.Prelude.{ℕ, ◌+◌, ◌<◌, ◌≤◌, ◌^◌, ◌≡◌, ◌⊎◌, List, ◌++◌, length, take, drop, Some, None, Result, Ok, Err, IsTrue, true}
use Rattle.std.specs.List.{All}
use Rattle.pass_entry.specs.declared.record.Record.{Record}
use Rattle.pass_entry.specs.Ranges.{IsInRange}
use Rattle.pass_graph.specs.declared.logged.Logged.{Logged}
use Rattle.pass_graph.specs.Logged.{Summarizes}
use Rattle.pass_log.specs.Frames.{longest, IsFront}
use Rattle.pass_log.specs.declared.fault.LogFault.{LogFault}
use Rattle.pass_log.specs.Log.{HoldsSame}
use Rattle.pass_log.specs.Records.{Held, records_of, spellings, image_of}
use Rattle.pass_outside.specs.Moments.{Moment}
use Rattle.pass_plain.specs.WellLogged.{IsWellLogged}
use Rattle.pass_log.specs.LogImage.{IsImage}
use Rattle.pass_standby.specs.declared.opening.Found.{Found}
use Rattle.pass_standby.specs.declared.fault.StandbyFault.{StandbyFault}
use Rattle.pass_standby.specs.declared.fault.StandbyFault.TheVariants as faults
use Rattle.pass_standby.specs.Streams.{batch_in, is_open, claimed}

-- where the records of a log image end
abbrev pub end_of : Result Held LogFault → ℕ
end_of (Ok held) = held.end
end_of (Err fault) = 0

-- a log area holds what these bytes hold, byte by byte up to its end
abbrev pub HoldsStill : List ℕ → List ℕ → Type 0
HoldsStill old new = HoldsSame (end_of (image_of old)) old new

-- records were read of a frame's bytes, and stand behind others without a flaw; the tables tell what all of them say
pub record IsBatch (before : List Record) (frame : List ℕ) (old new : List Record) (judge : Logged) : Type 0 where
  pub batch : List Record
  pub read : batch_in before frame ≡ Some batch
  pub put : new ≡ old ++ batch
  pub says : Summarizes judge (before ++ batch)
  pub spelled : frame ≡ spellings batch
  pub in_range : All IsInRange batch

-- behind an open gate no whole frame and next gate stand
abbrev pub IsBroken : List ℕ → Type 0
IsBroken bytes = length (drop 1 bytes) ≤ claimed bytes + 4

-- behind an open gate a whole frame and the next gate stand, but the frame has no records that may stand behind these
abbrev pub IsUnread : List Record → List ℕ → Type 0
IsUnread list bytes = (claimed bytes + 4 < length (drop 1 bytes)) × (batch_in list (take (claimed bytes) (drop 5 bytes)) ≡ None)

-- In front of this place stand whole frames, of records that are well logged. The gate there is open, and its frame is broken,
-- or its bytes aren't whole records, or it has one with a flaw.
pub record HasBadFrame (bytes : List ℕ) (at : ℕ) : Type 0 where
  pub frames : List (List ℕ)
  pub list : List Record
  pub front : IsFront (take at bytes) frames
  pub within : at < length bytes
  pub read : records_of 0 frames ≡ Ok list
  pub logged : IsWellLogged list
  pub gate : is_open (drop at bytes) ≡ true
  pub bad : IsBroken (drop at bytes) ⊎ IsUnread list (drop at bytes)

-- The log area is longer than it may be, at that length; or this is its first bad frame. Of a disk that tells nothing some bytes
-- are so.
abbrev pub IsBadLog : Moment → ℕ → Type 0
IsBadLog m at = (bytes : List ℕ) × (IsTrue m.tells → bytes ≡ m.seen.log)
    × (((longest < length bytes) × (at ≡ longest)) ⊎ ((1 < length bytes) × (length bytes ≤ longest) × HasBadFrame bytes at))

-- The log area has these records, well logged, and ends there. Of a disk that tells nothing some bytes do.
abbrev pub IsGoodLog : Moment → List Record → ℕ → Type 0
IsGoodLog m list end = IsWellLogged list × ((bytes : List ℕ) × (IsTrue m.tells → bytes ≡ m.seen.log) × (image_of bytes ≡ Ok (record { list = list; end = end })))

-- what was found is what the bytes hold, well logged, and the tables tell it
pub record IsFound (bytes : List ℕ) (found : Found) : Type 0 where
  pub image : IsImage found.image bytes
  pub logged : IsWellLogged found.image.list.items
  pub says : Summarizes found.judge found.image.list.items
  pub place : found.image.end ≤ 2 ^ 39

-- what was found is what the log area holds. Of a disk that tells nothing it is what some bytes hold.
abbrev pub IsFoundOn : Moment → Found → Type 0
IsFoundOn m found = (bytes : List ℕ) × (IsTrue m.tells → bytes ≡ m.seen.log) × IsFound bytes found

-- The cause of a fault of reading the log area: it is longer than it may be. Of a disk that tells nothing some bytes are so.
abbrev pub IsLeftUnread : Moment → StandbyFault → Type 0
IsLeftUnread m faults.DiskFault = Unit {0}
IsLeftUnread m (faults.BadLog at) = (bytes : List ℕ) × (IsTrue m.tells → bytes ≡ m.seen.log) × (longest < length bytes) × (at ≡ longest)
IsLeftUnread m faults.NoMemory = Unit {0}
IsLeftUnread m (faults.BadStream at) = ⊥
IsLeftUnread m (faults.Closed at) = ⊥

-- the cause of a fault of opening
abbrev pub IsUnopened : Moment → StandbyFault → Type 0
IsUnopened m faults.DiskFault = Unit {0}
IsUnopened m (faults.BadLog at) = IsBadLog m at
IsUnopened m faults.NoMemory = Unit {0}
IsUnopened m (faults.BadStream at) = ⊥
IsUnopened m (faults.Closed at) = ⊥
