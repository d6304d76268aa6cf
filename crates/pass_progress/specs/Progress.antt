-- What the answer of a call makes of its process's history, for whoever runs a trace.
use Rattle.std.specs.Prelude.{◌≡◌, ℕ, ◌+◌, ◌<◌, ◌≤◌, ◌≢◌, ◌⊎◌, true, false, List, [], Some, None, Result, Ok, Err, length, slice_get}
use Rattle.pass_entry.specs.declared.entry.Act.TheVariants as act
use Rattle.pass_entry.specs.declared.entry.Entry.{Entry}
use Rattle.pass_plain.specs.declared.request.Request.{Request}
use Rattle.pass_plain.specs.declared.request.Request.TheVariants as requests
use Rattle.pass_plain.specs.CallLaws.{IsBegun}
use Rattle.pass_plain.specs.Calls.{Made, Step, call_steps, name_of, pnode_at}
use Rattle.pass_plain.specs.Histories.{call_entries}
use Rattle.pass_plain.specs.Legal.{IsLegal, before_call, is_over, last_number}
use Rattle.pass_plain.specs.NextSteps.{AreOfCall}
use Rattle.pass_plain.specs.Places.{left_places, need_of}
use Rattle.pass_plain.specs.Processes.{Held, has_begun, has_ended}
use Rattle.pass_plain.specs.Replies.{reply_to}
use Rattle.pass_plain.specs.Runs.{next_number}
use Rattle.pass_plain.specs.Sessions.{Session}
use Rattle.pass_hold.specs.Callings.{IsCallMade, IsIdle, HasLooked}
use Rattle.pass_hold.specs.Goings.{Goes, HasAnswered, HasNotAnswered, IsUnderWay}
use Rattle.pass_proc.specs.Procs.{ProcView}
use Rattle.pass_proc.specs.UnderWay.{IsWay}
use Rattle.pass_answer.specs.Answers.{Answers, resumes}
use Rattle.pass_answer.specs.declared.answer.CallEnd.{CallEnd}
use Rattle.pass_answer.specs.declared.answer.CallEnd.TheVariants as ends
use Rattle.pass_answer.specs.declared.answer.Moved.{Moved}

-- Before the call

-- what holds of a process between two calls
pub record IsBetween (session : Session) (p : ProcView) : Type 0 where
  pub idle : IsIdle session p.seen p.who p.number p.state
  pub way : IsWay session p.who p.number p.seen p.state p.way

-- the process is in no call: its last one is over, or it has made none
abbrev pub IsAtRest : ProcView → Type 0
IsAtRest p = next_number p.seen p.who ≡ last_number p.seen p.who + 1

-- it may make the call and leave none: it is in no call, or in this one, a write to a pipe that is under way
abbrev pub MayGoOn : ProcView → Request → Type 0
MayGoOn p r = IsAtRest p ⊎ (resumes p.way r ≡ true)

-- What it makes of the history

-- the process goes on with its call, which is one of the request, and with no other
pub record HasGoneOn (session : Session) (old new : ProcView) (r : Request) : Type 0 where
  pub who : new.who ≡ old.who
  pub goes : Goes session old.who r old.seen new.seen
  pub before : before_call new.seen old.who (next_number old.seen old.who) ≡ before_call old.seen old.who (next_number old.seen old.who)
  pub steps : IsBegun old.who (before_call new.seen old.who (next_number old.seen old.who)) (call_entries new.seen old.who (next_number old.seen old.who)) r
  pub named : AreOfCall (call_entries new.seen old.who (next_number old.seen old.who)) (name_of r)

-- the call is over, and the process is in no call
pub record IsDone (session : Session) (old new : ProcView) (r : Request) : Type 0 where
  pub on : HasGoneOn session old new r
  pub answered : HasAnswered old.who old.seen new.seen
  pub rest : IsAtRest new

-- the call is under way, or has not begun
pub record IsNotDone (session : Session) (old new : ProcView) (r : Request) : Type 0 where
  pub on : HasGoneOn session old new r
  pub unanswered : HasNotAnswered old.who r old.seen new.seen

-- the next step of the process's call is not ready
abbrev pub IsNotReady : Session → ℕ → Request → List Entry → Type 0
IsNotReady session who r seen = (s : Step)
    → slice_get (call_steps who (before_call seen who (next_number seen who)) (call_entries seen who (next_number seen who)) r) (length (call_entries seen who (next_number seen who))) ≡ Some s
    → reply_to session seen s.0 s.1 ≡ None

-- the process's call has made no entry, and fewer places are left than it needs
pub record IsShortOfPlaces (places who : ℕ) (r : Request) (seen : List Entry) : Type 0 where
  pub none : call_entries seen who (next_number seen who) ≡ []
  pub lacks : left_places places seen < need_of (name_of r)

-- What an answer makes of the history. After a fault of the disk, and after want of memory in a sync, the call may be under way with its first
-- entry, and is not gone on with: the run ends.
abbrev pub Progresses : Session → ℕ → ProcView → ProcView → Request → Result Moved CallEnd → Type 0
Progresses session places old new r (Ok m) = IsDone session old new r
Progresses session places old new r (Err (ends.Fault f)) = IsDone session old new r
Progresses session places old new r (Err ends.Again) = IsNotDone session old new r × IsNotReady session old.who r new.seen × MayGoOn new r
Progresses session places old new r (Err (ends.DiskFault opened now)) = IsNotDone session old new r
Progresses session places old new r (Err (ends.Full left need)) = IsNotDone session old new r × IsShortOfPlaces places old.who r new.seen × MayGoOn new r
Progresses session places old new r (Err ends.NoMemory) = IsNotDone session old new r

-- each call but a sync
abbrev pub ProgressLaw : Type 0
ProgressLaw = (session : Session) (places : ℕ) (old new : ProcView) (r : Request) (result : Result Moved CallEnd) → IsBetween session old → IsBetween session new → MayGoOn old r
    → Answers session places old new r result → Progresses session places old new r result

-- Between the calls

-- the call that it may make has made first steps of the request, if any
abbrev pub UnderWayLaw : Type 0
UnderWayLaw = (session : Session) (p : ProcView) (r : Request) → IsBetween session p → MayGoOn p r → IsUnderWay p.seen p.who r

-- what it read last is what it had read last before that call
abbrev pub LastReadLaw : Type 0
LastReadLaw = (session : Session) (p : ProcView) (r : Request) → IsBetween session p → MayGoOn p r
    → p.state.last_read ≡ (before_call p.seen p.who (next_number p.seen p.who)).last_read

-- it may go on where it only looks
abbrev pub LookedLaw : Type 0
LookedLaw = (session : Session) (old new : ProcView) (r : Request) → IsBetween session old → HasLooked session old.who old.seen new.seen → new.who ≡ old.who → new.way ≡ old.way
    → MayGoOn old r → MayGoOn new r

-- Children and the end

-- each process that it has borne since is such
abbrev pub BornAs : ℕ → List Entry → List Entry → (ℕ → Type 0) → Type 0
BornAs who old new Is = (n : ℕ) (e : Entry) (out : ℕ) (descriptors : Held) → slice_get new n ≡ Some e → length old ≤ n → e.who ≡ who → e.act ≡ act.Born out descriptors → Is e.what

-- whoever goes on with a call bears none, or is in a fork, and bears the child whose number its first entry tells
abbrev pub BirthLaw : Type 0
BirthLaw = (session : Session) (who : ℕ) (r : Request) (old new : List Entry) → Goes session who r old new
    → BornAs who old new (λ what. (r ≡ requests.Fork) × (what ≡ pnode_at (call_entries new who (next_number old who)) 0))

-- a fork that did not go through has borne none
abbrev pub ChildlessLaw : Type 0
ChildlessLaw = (session : Session) (places : ℕ) (old new : ProcView) (end : CallEnd) → IsBetween session old → IsBetween session new → MayGoOn old requests.Fork
    → Answers session places old new requests.Fork (Err end) → BornAs old.who old.seen new.seen (λ what. ⊥)

-- the process counts the calls that are done
abbrev pub NumberLaw : Type 0
NumberLaw = (session : Session) (old new : ProcView) (r : Request) → IsBetween session new → IsDone session old new r → new.number ≡ next_number old.seen old.who

-- a child that has begun and has made no entry
pub record IsNewborn (session : Session) (who : ℕ) (seen : List Entry) : Type 0 where
  pub legal : IsLegal session seen
  pub begun : has_begun seen who ≡ true
  pub living : has_ended seen who ≡ false
  pub silent : (n : ℕ) (e : Entry) → slice_get seen n ≡ Some e → e.who ≢ who

-- a process between two calls that has made none is such, and is in no call
abbrev pub NewbornLaw : Type 0
NewbornLaw = (session : Session) (p : ProcView) → IsBetween session p → p.number ≡ 0 → IsNewborn session p.who p.seen × IsAtRest p

-- a process that is in no call makes its exit
abbrev pub ExitLaw : Type 0
ExitLaw = (session : Session) (old : ProcView) (new : List Entry) (made : Made) → IsBetween session old → IsAtRest old → IsCallMade session old.who old.seen new requests.Exit made
    → Goes session old.who requests.Exit old.seen new × (is_over new old.who (next_number old.seen old.who) ≡ true) × (has_ended new old.who ≡ true)
