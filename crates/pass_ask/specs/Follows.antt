-- What `follow` is answered, and what it leaves of its disk. This project's own rule.
use Rattle.std.specs.Prelude.{ℕ, ◌≡◌, ◌≢◌, ◌⊎◌, ◌↔◌, ◌<◌, ◌≤◌, Bool, true, false, IsTrue, List, [], ◌∷◌, ◌++◌, length, take, Result, Ok, Err, IsOk, codes}
use Rattle.std.specs.Fmt.{decimal}
use Rattle.pass_log.specs.declared.fault.LogFault.{LogFault}
use Rattle.pass_log.specs.Frames.{longest}
use Rattle.pass_log.specs.Log.{LeavesStore}
use Rattle.pass_log.specs.Records.{Held, image_of}
use Rattle.pass_outside.specs.Areas.{Image}
use Rattle.pass_outside.specs.Faults.{HasRisen, HasStayed}
use Rattle.pass_outside.specs.Moments.{Moment, Adds, IsDeviceWork}
use Rattle.pass_plain.specs.WellLogged.{IsWellLogged}
use Rattle.pass_recover.specs.Faults.{LogHas}
use Rattle.pass_status.specs.declared.status.Status.{Status}
use Rattle.pass_status.specs.declared.status.Status.TheVariants as status
use Rattle.pass_status.specs.Statuses.{status_text}
use Rattle.pass_status.specs.Writing.{IsPartOfText}
use Rattle.pass_standby.specs.declared.fault.StandbyFault.{StandbyFault}
use Rattle.pass_standby.specs.declared.fault.StandbyFault.TheVariants as faults
use Rattle.pass_standby.specs.declared.standby.Fate.TheVariants as fates
use Rattle.pass_standby.specs.Logs.{HasBadFrame}
use Rattle.pass_standby.specs.Sending.{HoldsLogged}
use Rattle.pass_standby.specs.Standing.{Standing, Spoils, Leaves, Reads, log_to, told_of}
use Rattle.pass_standby.specs.Streams.{Told, HasSomeFrames, bytes_with, followed, told_from}
use Rattle.pass_ask.specs.Answers.{SinkSeen, IsNoDiskFault, HasFailed}
use Rattle.pass_ask.specs.declared.following.Refusal.{Refusal}
use Rattle.pass_ask.specs.declared.following.Refusal.TheVariants as refusal

-- What has come

-- the bytes of a log area hold well logged records, and with these bytes of a stream behind them it has come to this
abbrev pub OfStream : List ℕ → List ℕ → (Told → Type 0) → Type 0
OfStream log bytes Holds = (held : Held) × (image_of log ≡ Ok held) × IsWellLogged held.list × Holds (followed (told_from held) bytes)

-- a log with the whole frames of these bytes behind it
abbrev pub with_stream : Result Held LogFault → List ℕ → Result Held LogFault
with_stream (Ok held) bytes = Ok (record { list = (followed (told_from held) bytes).list; end = (followed (told_from held) bytes).at })
with_stream (Err fault) bytes = Err fault

-- The log area holds what it held, with the whole frames of these bytes behind. Byte by byte that is what stood there up to the old end,
-- and then the bytes with which they have made frames whole.
pub record HasMore (log bytes left : List ℕ) : Type 0 where
  pub image : image_of left ≡ with_stream (image_of log) bytes
  pub area : (held : Held) → image_of log ≡ Ok held → take (followed (told_from held) bytes).at left ≡ bytes_with (take held.end log) (told_from held) bytes

-- it does with those of some beginning of these bytes
abbrev pub HasSomeMore : List ℕ → List ℕ → List ℕ → Type 0
HasSomeMore log bytes left = (n : ℕ) × (n ≤ length bytes) × HasMore log (take n bytes) left

-- the log area is too long, at that length; or this is its first bad frame
abbrev pub IsFirstBad : List ℕ → ℕ → Type 0
IsFirstBad log at = ((longest < length log) × (at ≡ longest)) ⊎ ((1 < length log) × (length log ≤ longest) × HasBadFrame log at)

-- the place behind the last whole frame, and how many bytes have come of the next
abbrev pub place_line : ℕ → ℕ → List ℕ
place_line position rest = codes "position " ++ decimal position ++ codes " rest " ++ decimal rest ++ 10 ∷ []

abbrev pub place_text : Told → List ℕ
place_text t = place_line t.at (length t.begun)

-- How it is judged

-- the statuses with which following ends
abbrev pub ends_follow : Status → Bool
ends_follow status.Done = true
ends_follow status.ReadFault = true
ends_follow (status.DiskFault opened now) = true
ends_follow (status.BadStream at) = true
ends_follow (status.BadLog at) = true
ends_follow _ = false

-- What is judged by the bytes of the log area as it was, the bytes of the stream that were read, the source's count of faults
-- before and after, and the disk before and after. The device's faults come first, then the log's; the source's fault, or the
-- stream's, ends the stream.
pub record IsFollowJudged (log bytes : List ℕ) (before after : ℕ) (old new : Moment) (judged : Status) : Type 0 where
  pub disk_fault : (opened now : ℕ) → judged ≡ status.DiskFault opened now → HasFailed old new opened now
  -- and wherever the count rose
  pub unhidden : old.faults < new.faults → judged ≡ status.DiskFault old.faults new.faults
  pub bad_log : (at : ℕ) → judged ≡ status.BadLog at → IsFirstBad log at
  pub unsound : ((at : ℕ) × (judged ≡ status.BadLog at)) ↔ (IsNoDiskFault judged × ¬ (HoldsLogged log))
  pub read_fault : judged ≡ status.ReadFault ↔ (IsNoDiskFault judged × HoldsLogged log × HasRisen before after)
  -- and wherever the source's count rose
  pub rose : before < after → judged ≡ status.ReadFault
  pub bad_stream : (at : ℕ) → judged ≡ status.BadStream at ↔ (IsNoDiskFault judged × (¬ (HasRisen before after)) × OfStream log bytes (λ t. (t.bad ≡ true) × (at ≡ t.at)))
  pub done : judged ≡ status.Done ↔ (IsNoDiskFault judged × (¬ (HasRisen before after)) × OfStream log bytes (λ t. t.bad ≡ false))
  pub no_other : ends_follow judged ≡ true
  -- unless a device call failed, each crash then leaves the whole frames that came
  pub stands : IsNoDiskFault judged → HoldsLogged log → IsTrue old.tells → (c : Image) → new.may_leave c → HasMore log bytes c.log

-- What is left of the disk, whatever the answer: a crash at any moment leaves what it might have left before, or the log with some
-- of the whole frames that came; and the other area is as it was.
pub record IsFollowedOn (log bytes : List ℕ) (old new : Moment) : Type 0 where
  pub moments : IsTrue old.tells → Adds old new (λ c. old.may_leave c ⊎ HasSomeMore log bytes c.log)
  pub store : LeavesStore old new

-- The property holds of the bytes that were read of a source, which has the rest left, and of the bytes of a log area; each where
-- they are told
abbrev pub OfRead : Bool → List ℕ → List ℕ → Moment → (List ℕ → List ℕ → Type 0) → Type 0
OfRead tells left rest old Holds = (bytes : List ℕ) × (IsTrue tells → left ≡ bytes ++ rest) × LogHas old (λ log. Holds log bytes)

-- what was judged, with the text of Done, over a stream that was read up to there
pub record HasFollowed (log bytes rest : List ℕ) (tells : Bool) (before after : ℕ) (old new : Moment) (judged : Status) (text : List ℕ) : Type 0 where
  pub by : IsFollowJudged log bytes before after old new judged
  pub says : judged ≡ status.Done → OfStream log bytes (λ t. text ≡ place_text t)
  pub to_end : judged ≡ status.Done → IsTrue tells → rest ≡ []

-- What stands behind an answer of `follow` other than want of memory: the bytes that were read and those of the log area, where
-- they are told; the status that was judged by them, which is the answer unless the sink failed; and its text, which the sink took
pub record IsFollowAnswer (tells : Bool) (left rest : List ℕ) (before after : ℕ) (sink : SinkSeen) (old new : Moment) (answered : Status) : Type 0 where
  pub bytes : List ℕ
  pub told : IsTrue tells → left ≡ bytes ++ rest
  pub log : List ℕ
  pub logged : IsTrue old.tells → log ≡ old.seen.log
  pub judged : Status
  pub text : List ℕ
  pub by : HasFollowed log bytes rest tells before after old new judged text
  pub refusal : judged ≢ status.Done → text ≡ status_text judged
  pub stands : (answered ≡ judged) ⊎ (answered ≡ status.WriteFault)
  pub whole : answered ≢ status.WriteFault → IsTrue sink.tells → sink.after ≡ sink.before ++ text
  pub part : answered ≡ status.WriteFault → IsTrue sink.tells → IsPartOfText text sink.before sink.after

-- How it goes

-- no refusal came with these bytes
pub record GoesOn {D : Type 0} (view : D → Moment) (old : Standing D) (bytes : List ℕ) (new : Standing D) : Type 0 where
  pub going : new.fate ≡ fates.Going
  pub told : told_of new ≡ followed (told_of old) bytes
  pub leaves : Leaves (view new.disk) new.list new.at
  pub area : Reads (view new.disk) new.at (bytes_with (log_to (view old.disk) old.at) (told_of old) bytes)

-- what these bytes did to the disk
pub record DoesTo {D : Type 0} (view : D → Moment) (old : Standing D) (bytes : List ℕ) (new : Standing D) (failed : Type 0) : Type 0 where
  pub moments : IsTrue (view old.disk).tells → Adds (view old.disk) (view new.disk) (λ c. HasSomeFrames (log_to (view old.disk) old.at) (told_of old) bytes c.log)
  pub store : LeavesStore (view old.disk) (view new.disk)
  pub work : IsDeviceWork (view old.disk) (view new.disk) failed

-- what a standby's fault says of these bytes
abbrev pub Refuses : {D : Type 0} → (D → Moment) → Standing D → List ℕ → Standing D → StandbyFault → Type 0
Refuses view old bytes new (faults.BadStream at) = (at ≡ new.at) × Spoils (told_of old) bytes new.list new.at × Leaves (view new.disk) new.list new.at
    × Reads (view new.disk) new.at (bytes_with (log_to (view old.disk) old.at) (told_of old) bytes)
Refuses view old bytes new faults.DiskFault = Unit {0}
Refuses view old bytes new faults.NoMemory = Unit {0}
Refuses view old bytes new (faults.BadLog at) = ⊥
Refuses view old bytes new (faults.Closed at) = ⊥

-- what has come of a standby with these bytes, and of the count of faults of the source that gave them
abbrev pub Comes : {D A : Type 0} → (D → Moment) → Standing D → List ℕ → Standing D → ℕ → ℕ → Result A Refusal → Type 0
Comes view old bytes new before after (Ok x) = GoesOn view old bytes new × HasStayed before after
Comes view old bytes new before after (Err refusal.ReadFault) = GoesOn view old bytes new × HasRisen before after
Comes view old bytes new before after (Err (refusal.Refused fault)) = Refuses view old bytes new fault × HasStayed before after

-- a device call failed
abbrev pub IsOfDevice : {A : Type 0} → Result A Refusal → Type 0
IsOfDevice (Err (refusal.Refused faults.DiskFault)) = Unit {0}
IsOfDevice _ = ⊥

-- some bytes of a source, which has the rest left, were handed to a standby with this answer
abbrev pub HasFed : {D A : Type 0} → (D → Moment) → Bool → List ℕ → List ℕ → Standing D → Standing D → ℕ → ℕ → Result A Refusal → Type 0
HasFed view tells left rest old new before after answer =
    (bytes : List ℕ) × (IsTrue tells → left ≡ bytes ++ rest) × Comes view old bytes new before after answer × DoesTo view old bytes new (IsOfDevice answer)

-- The statuses

-- the status of a standby's fault, with the disk's counts of faults before and now
abbrev pub status_of_standby : ℕ → ℕ → StandbyFault → Status
status_of_standby opened now faults.DiskFault = status.DiskFault opened now
status_of_standby opened now (faults.BadLog at) = status.BadLog at
status_of_standby opened now (faults.BadStream at) = status.BadStream at
status_of_standby opened now (faults.Closed at) = status.NoMemory
status_of_standby opened now faults.NoMemory = status.NoMemory

-- the status and the text of what has come of a standby
abbrev pub IsToldOf : {A : Type 0} → Result A Refusal → ℕ → ℕ → ℕ → ℕ → Status → List ℕ → Type 0
IsToldOf (Ok x) position rest opened now judged text = ((judged ≡ status.Done) × (text ≡ place_line position rest)) ⊎ (judged ≡ status.NoMemory)
IsToldOf (Err refusal.ReadFault) position rest opened now judged text = judged ≡ status.ReadFault
IsToldOf (Err (refusal.Refused fault)) position rest opened now judged text = judged ≡ status_of_standby opened now fault

-- what has come of a standby that was opened: its answer to the source's bytes, its disk, and what is told of it
pub record HasCome {D : Type 0} (view : D → Moment) (tells : Bool) (left rest : List ℕ) (old : Standing D) (before after opened : ℕ) (disk : D) (judged : Status) (text : List ℕ) : Type 0 where
  pub new : Standing D
  pub answer : Result (Unit {0}) Refusal
  pub same : disk ≡ new.disk
  pub fed : HasFed view tells left rest old new before after answer
  pub to_end : IsOk answer → IsTrue tells → rest ≡ []
  pub told : IsToldOf answer new.at (length new.begun) opened (view disk).faults judged text
