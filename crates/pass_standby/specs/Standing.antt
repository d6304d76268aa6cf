-- A standby, and what its calls leave of the disk (this project's own rule).
use Rattle.std.specs.Prelude.{ℕ, ◌+◌, ◌<◌, ◌≤◌, ◌≡◌, ◌^◌, false, true, List, [], ◌∷◌, ◌++◌, ◌⊎◌, length, take, drop, IsTrue, Ok}
use Rattle.pass_entry.specs.declared.record.Record.{Record}
use Rattle.pass_graph.specs.declared.logged.Logged.{Logged}
use Rattle.pass_graph.specs.Logged.{Summarizes}
use Rattle.pass_log.specs.declared.log.Log.{Log}
use Rattle.pass_log.specs.Log.{IsSettled, log_end, log_opened}
use Rattle.pass_log.specs.Records.{image_of}
use Rattle.pass_outside.specs.Areas.{Image}
use Rattle.pass_outside.specs.Moments.{Moment}
use Rattle.pass_plain.specs.WellLogged.{IsWellLogged}
use Rattle.pass_standby.specs.declared.following.Following.{Following}
use Rattle.pass_standby.specs.declared.standby.Fate.{Fate}
use Rattle.pass_standby.specs.declared.standby.Fate.TheVariants as fates
use Rattle.pass_standby.specs.declared.fault.StandbyFault.{StandbyFault}
use Rattle.pass_standby.specs.declared.fault.StandbyFault.TheVariants as faults
use Rattle.pass_standby.specs.Streams.{Told, IsBegun, HoldsLog, HasFrames, bytes_as, bytes_with, followed}

-- A standby as contracts see it: its disk, the records that its index has, the place behind its last whole frame, the bytes of the
-- frame that has begun there, and what has come of it.
pub record Standing (D : Type 0) : Type 0 where
  pub disk : D
  pub list : List Record
  pub at : ℕ
  pub begun : List ℕ
  pub fate : Fate

-- what has come of the stream
abbrev pub told_of : {D : Type 0} → Standing D → Told
told_of s = record { list = s.list; at = s.at; begun = s.begun; bad = false }

-- the same of the parts that go on
abbrev pub told_so_far : {D : Type 0} → Following D → Told
told_so_far f = record { list = f.index; at = log_end f.log; begun = f.begun.items; bad = false }

-- a frame of these bytes is bad, and the ones before it stand, of these records and up to there
pub record Spoils (t : Told) (bytes : List ℕ) (list : List Record) (at : ℕ) : Type 0 where
  pub bad : (followed t bytes).bad ≡ true
  pub list_is : list ≡ (followed t bytes).list
  pub at_is : at ≡ (followed t bytes).at

-- what the log area reads up to a place
abbrev pub log_to : Moment → ℕ → List ℕ
log_to m at = take at m.seen.log

-- it reads these bytes
abbrev pub Reads : Moment → ℕ → List ℕ → Type 0
Reads m at kept = IsTrue m.tells → log_to m at ≡ kept

-- A crash leaves the frames that had come then, or also one more that couldn't be kept; each with its bytes.
abbrev pub LeavesEither : Moment → Told → List ℕ → Told → List ℕ → Type 0
LeavesEither m t kept u more = IsTrue m.tells → (c : Image) → m.may_leave c → HasFrames t kept c.log ⊎ HasFrames u more c.log

-- A device call failed as the byte behind so many of these made a frame whole, which has no flaw. The whole frames in front of it
-- stand, of these records and up to there; each crash leaves them, or also that one.
pub record Stops (m : Moment) (kept : List ℕ) (t : Told) (bytes : List ℕ) (list : List Record) (at : ℕ) : Type 0 where
  pub count : ℕ
  pub within : count < length bytes
  pub good : (followed t (take (count + 1) bytes)).bad ≡ false
  pub whole : (followed t (take count bytes)).at < (followed t (take (count + 1) bytes)).at
  pub list_is : list ≡ (followed t (take count bytes)).list
  pub at_is : at ≡ (followed t (take count bytes)).at
  pub leaves : LeavesEither m (followed t (take count bytes)) (bytes_with kept t (take count bytes)) (followed t (take (count + 1) bytes)) (bytes_with kept t (take (count + 1) bytes))

-- Memory was refused behind some beginning of these bytes, whose whole frames stand: the index has all records from before, and may
-- lack some of the last frame's.
pub record Starves (t : Told) (bytes : List ℕ) (list : List Record) (at : ℕ) : Type 0 where
  pub count : ℕ
  pub within : count ≤ length bytes
  pub good : (followed t (take count bytes)).bad ≡ false
  pub lacks : List Record
  pub list_is : list ++ lacks ≡ (followed t (take count bytes)).list
  pub least : length t.list ≤ length list
  pub at_is : at ≡ (followed t (take count bytes)).at

-- each crash leaves a log of these records that ends there, with the bytes that the log area reads up to there
abbrev pub Leaves : Moment → List Record → ℕ → Type 0
Leaves m list at = IsTrue m.tells → (c : Image) → m.may_leave c → HoldsLog list at (log_to m at) c.log

-- A disk, its log and the tables are those of the records of an index, and each crash leaves them.
pub record IsKept (m : Moment) (log : Log) (index : List Record) (judge : Logged) : Type 0 where
  pub settled : IsSettled log m
  pub healthy : m.faults ≡ log_opened log
  pub says : Summarizes judge index
  pub logged : IsWellLogged index
  pub place : log_end log ≤ 2 ^ 39
  pub reads : IsTrue m.tells → image_of m.seen.log ≡ Ok (record { list = index; end = log_end log })
  pub leaves : Leaves m index (log_end log)

abbrev pub IsFollowing : {D : Type 0} → (D → Moment) → Following D → Type 0
IsFollowing view f = IsKept (view f.disk) f.log f.index f.judge

-- what has begun is the beginning of a frame
abbrev pub HasBegun : {D : Type 0} → Following D → Type 0
HasBegun f = IsBegun (log_end f.log) f.begun.items

-- what the log writes first of a whole frame: all but its gate, and the closed gate behind it
abbrev pub staged_of : List ℕ → List ℕ
staged_of frame = drop 1 frame ++ 0 ∷ []

-- What a fault has left while one frame of these bytes was kept behind others, where t was told before and u is with it.
abbrev pub Undone : {D : Type 0} → (D → Moment) → List ℕ → Told → List ℕ → Told → Following D → StandbyFault → Type 0
Undone view kept t frame u new faults.DiskFault = (new.index ≡ t.list) × (log_end new.log ≡ t.at) × (u.bad ≡ false) × (t.at < u.at)
    × LeavesEither (view new.disk) t kept u (bytes_as kept t frame u)
Undone view kept t frame u new (faults.BadStream at) = (at ≡ log_end new.log) × (u.bad ≡ true) × (new.index ≡ u.list) × (log_end new.log ≡ u.at)
    × Leaves (view new.disk) new.index (log_end new.log) × (u.at ≡ t.at) × Reads (view new.disk) (log_end new.log) kept
Undone view kept t frame u new faults.NoMemory = ((new.index ≡ t.list) × (log_end new.log ≡ t.at))
    ⊎ ((u.bad ≡ false) × ((lacks : List Record) × (new.index ++ lacks ≡ u.list)) × (length t.list ≤ length new.index) × (log_end new.log ≡ u.at))
Undone view kept t frame u new (faults.BadLog at) = ⊥
Undone view kept t frame u new (faults.Closed at) = ⊥

-- what a fault that ended a feed has left
abbrev pub Ends : {D : Type 0} → (D → Moment) → List ℕ → Told → List ℕ → Following D → StandbyFault → Type 0
Ends view kept t bytes new faults.DiskFault = Stops (view new.disk) kept t bytes new.index (log_end new.log)
Ends view kept t bytes new (faults.BadStream at) = (at ≡ log_end new.log) × Spoils t bytes new.index (log_end new.log) × Leaves (view new.disk) new.index (log_end new.log)
    × Reads (view new.disk) (log_end new.log) (bytes_with kept t bytes)
Ends view kept t bytes new faults.NoMemory = Starves t bytes new.index (log_end new.log)
Ends view kept t bytes new (faults.BadLog at) = ⊥
Ends view kept t bytes new (faults.Closed at) = ⊥

-- what contracts see of one
abbrev pub seen_as : {D : Type 0} → Following D → Fate → Standing D
seen_as f fate = record { disk = f.disk; list = f.index; at = log_end f.log; begun = f.begun.items; fate = fate }

-- what is known of a standby: it goes on; or a bad frame came; or a device call or memory failed
pub record IsStanding {D : Type 0} (view : D → Moment) (f : Following D) (fate : Fate) : Type 0 where
  pub following : fate ≡ fates.Going → IsFollowing view f × HasBegun f
  pub leaves : fate ≡ fates.Bad → Leaves (view f.disk) f.index (log_end f.log)

-- what a fault of a feed has left of a standby
abbrev pub HasEnded : {D : Type 0} → (D → Moment) → Standing D → List ℕ → Standing D → StandbyFault → Type 0
HasEnded view old bytes new faults.DiskFault = (new.fate ≡ fates.Failed) × Stops (view new.disk) (log_to (view old.disk) old.at) (told_of old) bytes new.list new.at
HasEnded view old bytes new (faults.BadStream at) = (new.fate ≡ fates.Bad) × (at ≡ new.at) × Spoils (told_of old) bytes new.list new.at × Leaves (view new.disk) new.list new.at
    × Reads (view new.disk) new.at (bytes_with (log_to (view old.disk) old.at) (told_of old) bytes)
HasEnded view old bytes new faults.NoMemory = (new.fate ≡ fates.Starved) × Starves (told_of old) bytes new.list new.at
HasEnded view old bytes new (faults.BadLog at) = ⊥
HasEnded view old bytes new (faults.Closed at) = ⊥
