-- How a process goes on with one call, by looks and by the entries of its steps in order, and how the call stands then.
use Rattle.std.specs.Prelude.{ℕ, ◌+◌, ◌≡◌, ◌≢◌, ◌≤◌, true, false, List, Some, length, slice_get, take}
use mathlib.Core.List.{IsPrefix}
use Rattle.pass_entry.specs.declared.entry.Entry.{Entry}
use Rattle.pass_plain.specs.declared.request.Request.{Request}
use Rattle.pass_plain.specs.Histories.{call_entries}
use Rattle.pass_plain.specs.Sessions.{Session}
use Rattle.pass_plain.specs.Processes.{Process, has_begun, has_ended}
use Rattle.pass_plain.specs.Calls.{Made, name_of, call_steps}
use Rattle.pass_plain.specs.CallLaws.{IsBegun}
use Rattle.pass_plain.specs.Legal.{IsLegal, before_call, is_over, may_be_left, last_number}
use Rattle.pass_plain.specs.Places.{left_for, left_places}
use Rattle.pass_plain.specs.Runs.{next_number}
use Rattle.pass_hold.specs.Callings.{IsEntered, IsIdle, IsCallMade, HasLooked}

-- after the history the entry is the next step of the process's call of this number, before which its state was this
pub record IsStepAt (who number : ℕ) (request : Request) (state : Process) (history : List Entry) (e : Entry) : Type 0 where
  pub next : next_number history who ≡ number
  pub was : before_call history who number ≡ state
  pub by : e.who ≡ who
  pub counted : e.number ≡ number
  pub named : e.call ≡ name_of request
  pub step : slice_get (call_steps who state (call_entries history who number) request) (length (call_entries history who number)) ≡ Some (e.what, e.act)

-- a process had seen `old` and has seen `new`: each entry by it since was, where it stands, the next step of one call
pub record Goes (session : Session) (who : ℕ) (request : Request) (old new : List Entry) : Type 0 where
  pub legal : IsLegal session new
  pub begins : IsPrefix old new
  pub begun : has_begun new who ≡ true
  pub steps : (n : ℕ) (e : Entry) → slice_get new n ≡ Some e → e.who ≡ who → length old ≤ n
      → IsStepAt who (next_number old who) request (before_call old who (next_number old who)) (take n new) e
  pub others : (k n : ℕ) → k ≢ next_number old who → length old ≤ n → call_entries (take n new) who k ≡ call_entries old who k

-- the call that the process is in, or its next one, has made first steps of the request
abbrev pub IsUnderWay : List Entry → ℕ → Request → Type 0
IsUnderWay seen who request = IsBegun who (before_call seen who (next_number seen who)) (call_entries seen who (next_number seen who)) request

-- the call is over
pub record HasAnswered (who : ℕ) (old new : List Entry) : Type 0 where
  pub over : is_over new who (next_number old who) ≡ true
  pub next : next_number new who ≡ next_number old who + 1
  pub living : has_ended new who ≡ false

-- the call is as it was: under way, or not begun
pub record HasNotAnswered (who : ℕ) (request : Request) (old new : List Entry) : Type 0 where
  pub next : next_number new who ≡ next_number old who
  pub state : before_call new who (next_number old who) ≡ before_call old who (next_number old who)
  pub under_way : IsUnderWay new who request
  pub living : has_ended new who ≡ false

-- a process that has made no entry since
abbrev pub StillLaw : Type 0
StillLaw = (session : Session) (who : ℕ) (request : Request) (seen : List Entry) → IsLegal session seen → has_begun seen who ≡ true → Goes session who request seen seen

-- whoever goes on with a call may see more
abbrev pub LookLaw : Type 0
LookLaw = (session : Session) (who : ℕ) (request : Request) (old seen new : List Entry) → Goes session who request old seen → HasLooked session who seen new
    → Goes session who request old new

-- and may make the next step, by what it has seen
abbrev pub AddLaw : Type 0
AddLaw = (session : Session) (who : ℕ) (request : Request) (old seen desk new : List Entry) (e : Entry) → Goes session who request old seen
    → IsStepAt who (next_number old who) request (before_call old who (next_number old who)) seen e → IsEntered session seen desk new e
    → Goes session who request old new

-- a call that was made, and was the process's next one, has answered
abbrev pub AnsweredLaw : Type 0
AnsweredLaw = (session : Session) (who : ℕ) (request : Request) (old new : List Entry) (made : Made) (state : Process) → IsCallMade session who old new request made
    → next_number old who ≡ last_number old who + 1 → IsIdle session new who (last_number old who + 1) state → HasAnswered who old new

-- where the process has only looked, its call is as it was
abbrev pub UnansweredLaw : Type 0
UnansweredLaw = (session : Session) (who : ℕ) (request : Request) (old new : List Entry) → HasLooked session who old new → has_begun old who ≡ true → has_ended old who ≡ false
    → IsUnderWay old who request → HasNotAnswered who request old new

-- a process whose pipe write or sync is under way has the call's two places for a new call too: where 2 are left, it has 4
abbrev pub LeftLaw : Type 0
LeftLaw = (reserved : ℕ) (seen : List Entry) (who : ℕ) → may_be_left seen who (last_number seen who) ≡ true → is_over seen who (last_number seen who) ≡ false
    → left_for reserved seen who ≡ left_places reserved seen + 2
