-- What each process of a run has seen and made by itself.
use Rattle.std.specs.Prelude.{ℕ, ◌+◌, ◌-◌, ◌≡◌, ◌≤◌, ◌<◌, Bool, true, false, List, Some, None, Contains, take, length, slice_get}
use mathlib.Core.List.{IsPrefix}
use Rattle.pass_entry.specs.declared.entry.Entry.{Entry}
use Rattle.pass_entry.specs.declared.entry.Act.TheVariants as act
use Rattle.pass_plain.specs.declared.request.Request.{Request}
use Rattle.pass_plain.specs.Histories.{call_entries}
use Rattle.pass_plain.specs.Sessions.{Session}
use Rattle.pass_plain.specs.Processes.{Held, has_begun, has_ended}
use Rattle.pass_plain.specs.Replies.{reply_to}
use Rattle.pass_plain.specs.Calls.{Step, call_steps, pnode_at}
use Rattle.pass_plain.specs.Legal.{IsLegal, before_call, is_over}
use Rattle.pass_plain.specs.Lawful.{AgreeBy}
use Rattle.pass_plain.specs.Traces.{Line, LineCall, fork_as, request_of, lines_of, calls_of}
use Rattle.pass_plain.specs.Runs.{next_number}
use Rattle.pass_replay.specs.Making.{IsNextEntry}

-- the function gives the pnode of each child that the first `done` lines of the process forked
abbrev pub KnowsChildren : List Line → List Entry → ℕ → ℕ → ℕ → (ℕ → ℕ) → Type 0
KnowsChildren trace history process who done pnode = (k child : ℕ) (l : Line) → k < done → slice_get (lines_of trace process) k ≡ Some l → l.call ≡ fork_as child
    → pnode child ≡ pnode_at (call_entries history who (k + 1)) 0

-- the request of a line's call of this number: a write may write what the process read last before it
abbrev pub request_by : (ℕ → ℕ) → List Entry → ℕ → ℕ → LineCall → Request
request_by pnode history who number call = request_of pnode (before_call history who number).last_read call

-- after the history the entry is the next step of the process's line of its number, or of the exit behind the lines
pub record IsLineStep (trace : List Line) (process who : ℕ) (history : List Entry) (e : Entry) : Type 0 where
  pub some : 1 ≤ e.number
  pub within : e.number ≤ length (calls_of trace process)
  pub next : next_number history who ≡ e.number
  pub is : (call : LineCall) → slice_get (calls_of trace process) (e.number - 1) ≡ Some call → (pnode : ℕ → ℕ) → KnowsChildren trace history process who (e.number - 1) pnode
      → IsNextEntry who e.number (request_by pnode history who e.number call) (before_call history who e.number) (call_entries history who e.number) e

-- the process has begun, and each entry by it was, where it stands, the next step of its lines
pub record MakesSteps (trace : List Line) (process who : ℕ) (seen : List Entry) : Type 0 where
  pub begun : has_begun seen who ≡ true
  pub steps : (n : ℕ) (e : Entry) → slice_get seen n ≡ Some e → e.who ≡ who → IsLineStep trace process who (take n seen) e

-- a process of a run: its number in the trace, its pnode, the beginning of the history that it has seen, and whether it has made its exit
pub record Member : Type 0 where
  pub process : ℕ
  pub who : ℕ
  pub seen : List Entry
  pub ended : Bool

-- one of the members has this number in the trace and this pnode
pub record HasMember (members : List Member) (process who : ℕ) : Type 0 where
  pub member : Member
  pub among : Contains members member
  pub number : member.process ≡ process
  pub is : member.who ≡ who

-- the entry bears a child by the fork of one of the process's lines, and the child is a member
pub record IsBirth (trace : List Line) (members : List Member) (process : ℕ) (e : Entry) : Type 0 where
  pub number : ℕ
  pub child : ℕ
  pub counted : e.number ≡ number + 1
  pub forks : slice_get (calls_of trace process) number ≡ Some (fork_as child)
  pub there : HasMember members child e.what

-- each child that the member has borne is a member
abbrev pub HasChildren : List Line → List Member → Member → Type 0
HasChildren trace members m = (n : ℕ) (e : Entry) (out : ℕ) (descriptors : Held) → slice_get m.seen n ≡ Some e → e.who ≡ m.who → e.act ≡ act.Born out descriptors
    → IsBirth trace members m.process e

-- the members of a run: the first process is one, each has made steps of its lines, and its children are members
pub record AreMembers (first : ℕ) (trace : List Line) (members : List Member) : Type 0 where
  pub first_is : HasMember members 1 first
  pub make : (m : Member) → Contains members m → MakesSteps trace m.process m.who m.seen
  pub bear : (m : Member) → Contains members m → HasChildren trace members m
  pub ended : (m : Member) → Contains members m → m.ended ≡ true → is_over m.seen m.who (length (calls_of trace m.process)) ≡ true
  pub living : (m : Member) → Contains members m → m.ended ≡ false → has_ended m.seen m.who ≡ false

-- the store's history at the end: it is legal and goes on from what each member has seen, by no entry of that member
pub record IsHistoryOf (session : Session) (members : List Member) (history : List Entry) : Type 0 where
  pub legal : IsLegal session history
  pub begins : (m : Member) → Contains members m → IsPrefix m.seen history
  pub agrees : (m : Member) → Contains members m → AgreeBy m.who m.seen history

-- by what it has seen, the next step of a member's next call isn't ready
abbrev pub Waits : Session → List Line → Member → Type 0
Waits session trace m = (call : LineCall) → slice_get (calls_of trace m.process) (next_number m.seen m.who - 1) ≡ Some call
    → (pnode : ℕ → ℕ) → KnowsChildren trace m.seen m.process m.who (next_number m.seen m.who - 1) pnode → (s : Step)
    → slice_get (call_steps m.who (before_call m.seen m.who (next_number m.seen m.who)) (call_entries m.seen m.who (next_number m.seen m.who)) (request_by pnode m.seen m.who (next_number m.seen m.who) call))
    (length (call_entries m.seen m.who (next_number m.seen m.who))) ≡ Some s
    → reply_to session m.seen s.0 s.1 ≡ None

-- no member goes on: one lives; all that live have seen this many entries, and wait; and none that has ended has seen more
pub record AreStill (session : Session) (trace : List Line) (members : List Member) (count : ℕ) : Type 0 where
  pub one : Member
  pub among : Contains members one
  pub lives : one.ended ≡ false
  pub alike : (m : Member) → Contains members m → m.ended ≡ false → length m.seen ≡ count
  pub waits : (m : Member) → Contains members m → m.ended ≡ false → Waits session trace m
  pub fewer : (m : Member) → Contains members m → m.ended ≡ true → length m.seen ≤ count
