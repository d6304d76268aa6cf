-- An open log on its disk, and the frame of a batch (this project's own rule).
use Rattle.std.specs.Prelude.{◌≡◌, ◌⊎◌, ℕ, ◌+◌, ◌-◌, ◌<◌, ◌≤◌, ◌^◌, List, ◌∷◌, ◌++◌, length, take, drop, IsTrue}
use Rattle.std.specs.List.{All}
use Rattle.pass_entry.specs.declared.record.Record.{Record}
use Rattle.pass_entry.specs.Ranges.{IsInRange}
use Rattle.pass_outside.specs.Areas.{Image}
use Rattle.pass_outside.specs.Moments.{Moment, IsAtEnd, Adds, AfterStep, Follows}
use Rattle.pass_log.specs.declared.log.Log.{Log}
use Rattle.pass_log.specs.Frames.{frames_of, with_frame, staged, longest, Rests}
use Rattle.pass_log.specs.Records.{image_of, spellings, with_batch}

-- the place of the closed gate at its end, in bytes
abbrev pub log_end : Log → ℕ
log_end log = log.end

-- the disk's count of faults at its opening
abbrev pub log_opened : Log → ℕ
log_opened log = log.opened

-- the log area is at rest, all of it on the disk
pub record Stands (log : Log) (m : Moment) : Type 0 where
  pub list : List (List ℕ)
  pub rests : Rests list log.end m.seen.log
  pub fits : length m.seen.log ≤ longest
  pub only : (c : Image) → m.may_leave c → c.log ≡ m.seen.log

-- This log was opened on that disk, and no one else has written to its area since. After a fault nothing more is known.
pub record IsSettled (log : Log) (m : Moment) : Type 0 where
  pub opened : log.opened ≤ m.faults
  pub stands : IsTrue m.tells → m.faults ≡ log.opened → (IsAtEnd m → ⊥) → Stands log m

-- the records' bytes in what the first write of a frame has
abbrev pub batch_of : List ℕ → List ℕ
batch_of frame = take (length frame - 5) (drop 4 frame)

-- these are the bytes that the first write of a frame has
pub record IsStaged (frame : List ℕ) : Type 0 where
  pub is : frame ≡ staged (batch_of frame)
  pub fits : length (batch_of frame) < 2 ^ 32

-- these are the bytes that the first write of the frame of that batch has
pub record IsFrameOf (batch : List Record) (frame : List ℕ) : Type 0 where
  pub in_range : All IsInRange batch
  pub fits : length (spellings batch) < 2 ^ 32
  pub is : frame ≡ staged (spellings batch)

-- a frame as it stands in a log, given as the bytes that its first write has: its open gate, and all of them but the closed gate behind
abbrev pub standing : List ℕ → List ℕ
standing frame = 1 ∷ take (length frame - 1) frame

-- a log area with the frames from before, byte by byte up to their end
pub record HasSame (end : ℕ) (old new : List ℕ) : Type 0 where
  pub frames : frames_of new ≡ frames_of old
  pub bytes : take end new ≡ take end old

-- with one frame more behind them
pub record HasOneMore (frame : List ℕ) (end : ℕ) (old new : List ℕ) : Type 0 where
  pub frames : frames_of new ≡ with_frame (batch_of frame) (frames_of old)
  pub bytes : take (end + length frame) new ≡ take end old ++ standing frame

abbrev pub IsBeforeOrAfter : List ℕ → ℕ → List ℕ → List ℕ → Type 0
IsBeforeOrAfter frame end old new = HasSame end old new ⊎ HasOneMore frame end old new

-- a log area with the records from before, byte by byte up to their end
pub record HoldsSame (end : ℕ) (old new : List ℕ) : Type 0 where
  pub image : image_of new ≡ image_of old
  pub bytes : take end new ≡ take end old

-- with those of this frame behind them
pub record HoldsMore (batch : List Record) (frame : List ℕ) (end : ℕ) (old new : List ℕ) : Type 0 where
  pub image : image_of new ≡ with_batch batch (image_of old)
  pub bytes : take (end + length frame) new ≡ take end old ++ standing frame

abbrev pub IsOldOrMore : List Record → List ℕ → ℕ → List ℕ → List ℕ → Type 0
IsOldOrMore batch frame end old new = HoldsSame end old new ⊎ HoldsMore batch frame end old new

-- the store area stays
abbrev pub SameStore : Image → Image → Type 0
SameStore old new = new.store ≡ old.store

-- the log area stays
abbrev pub SameLog : Image → Image → Type 0
SameLog old new = new.log ≡ old.log

-- the store area stays: on each image that a crash leaves it is one that a crash might have left before
pub record LeavesStore (old new : Moment) : Type 0 where
  pub reads : IsTrue old.tells → SameStore old.seen new.seen
  pub at_once : Follows SameStore old new
  pub moments : Adds old new (AfterStep SameStore old)

-- how many device calls an append makes: frame and sync, gate and sync
abbrev pub append_calls : ℕ
append_calls = 4
