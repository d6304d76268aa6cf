-- A process of a run on its way. This project's own rule.
use Rattle.std.specs.Prelude.{ℕ, ◌+◌, ◌≡◌, ◌≢◌, ◌≤◌, true, false, nat_eq, List, [], Option, Some, None, length, slice_get}
use Rattle.std.specs.HashMap.{get}
use Rattle.std.specs.Option.{option_map_or}
use mathlib.Core.List.{IsPrefix}
use Rattle.pass_entry.specs.declared.entry.Entry.{Entry}
use Rattle.pass_entry.specs.declared.entry.Act.TheVariants as act
use Rattle.pass_plain.specs.Legal.{IsLegal, is_over}
use Rattle.pass_plain.specs.Processes.{Held, has_ended}
use Rattle.pass_plain.specs.Sessions.{Session}
use Rattle.pass_plain.specs.Traces.{Line, LineCall, fork_as, calls_of}
use Rattle.pass_plain.specs.Runs.{next_number, pnode_of_process}
use Rattle.pass_sched.specs.declared.task.Turn.TheVariants as turn
use Rattle.pass_progress.specs.Progress.{MayGoOn}
use Rattle.pass_replay.specs.Lines.{IsLineAt}
use Rattle.pass_replay.specs.Members.{Member, MakesSteps, Waits, request_by}
use Rattle.pass_walk.specs.declared.children.Children.{Children}
use Rattle.pass_walk.specs.declared.walker.Living.{Living}
use Rattle.pass_walk.specs.declared.walker.Ended.{Ended as EndedProcess}
use Rattle.pass_walk.specs.declared.walker.Left.{Left as LeftProcess}
use Rattle.pass_walk.specs.declared.walker.Walker.{Walker}
use Rattle.pass_walk.specs.declared.walker.Walker.TheVariants as kinds
use Rattle.pass_walk.specs.declared.walker.Went.{Went}
use Rattle.pass_walk.specs.declared.ends.Cause.{Cause}
use Rattle.pass_walk.specs.Causes.{IsCauseOf}
use Rattle.pass_walk.specs.Lefts.{left_at}
use Rattle.pass_walk.specs.Local.{IsLocal}

-- the pnode of a child by its number in the trace, 0 where none is known
abbrev pub pnode_among : Children → ℕ → ℕ
pnode_among children child = option_map_or (λ pnode. pnode) (get nat_eq children.pnodes child) 0

abbrev pub living_member : {J : Type 0} → Living J → Member
living_member l = record { process = l.process; who = l.proc.who; seen = l.proc.seen; ended = false }

-- a living process has made its lines in order, knows its children and its next line, and may make its next call
pub record IsLivingOf {J : Type 0} (session : Session) (trace : List Line) (l : Living J) : Type 0 where
  pub done : ℕ
  pub legal : IsLegal session l.proc.seen
  pub local : IsLocal trace l.process l.proc.who l.proc.seen done (pnode_among l.children)
  pub goes : (call : LineCall) → slice_get (calls_of trace l.process) done ≡ Some call
      → MayGoOn l.proc (request_by (pnode_among l.children) l.proc.seen l.proc.who (done + 1) call)
  pub line : IsLineAt trace l.process done l.line
  pub right : pnode_of_process session trace l.proc.seen l.process ≡ Some l.proc.who

abbrev pub ended_member : {J : Type 0} → EndedProcess J → Member
ended_member e = record { process = e.process; who = e.trail.who; seen = e.trail.seen; ended = true }

-- a process that has made its exit
pub record IsEndedOf {J : Type 0} (trace : List Line) (e : EndedProcess J) : Type 0 where
  pub makes : MakesSteps trace e.process e.trail.who e.trail.seen
  pub over : is_over e.trail.seen e.trail.who (length (calls_of trace e.process)) ≡ true
  pub met : (count : ℕ) → e.met ≡ Some count → length e.trail.seen ≡ count

abbrev pub left_member : {J : Type 0} → LeftProcess J → Member
left_member l = record { process = l.process; who = l.trail.who; seen = l.trail.seen; ended = false }

-- a process that was left in its lines, for this cause
pub record IsLeftOf {J : Type 0} (session : Session) (places : ℕ) (trace : List Line) (l : LeftProcess J) : Type 0 where
  pub makes : MakesSteps trace l.process l.trail.who l.trail.seen
  pub living : has_ended l.trail.seen l.trail.who ≡ false
  pub some : 1 ≤ l.left
  pub cause : IsCauseOf session places trace (left_member l) l.cause

abbrev pub IsWalkerOf : {J : Type 0} → Session → ℕ → List Line → Walker J → Type 0
IsWalkerOf session places trace (kinds.Living l) = IsLivingOf session trace l
IsWalkerOf session places trace (kinds.Ended e) = IsEndedOf trace e
IsWalkerOf session places trace (kinds.Left l) = IsLeftOf session places trace l
IsWalkerOf session places trace kinds.Gone = ⊥

abbrev pub no_member : Member
no_member = record { process = 0; who = 0; seen = []; ended = false }

abbrev pub member_of : {J : Type 0} → Walker J → Member
member_of (kinds.Living l) = living_member l
member_of (kinds.Ended e) = ended_member e
member_of (kinds.Left l) = left_member l
member_of kinds.Gone = no_member

abbrev pub left_of : {J : Type 0} → List Line → Walker J → ℕ
left_of trace (kinds.Living l) = left_at trace l.process l.line
left_of trace (kinds.Ended e) = 0
left_of trace (kinds.Left l) = l.left
left_of trace kinds.Gone = 0

abbrev pub cause_of : {J : Type 0} → Walker J → Option Cause
cause_of (kinds.Left l) = Some l.cause
cause_of _ = None

-- the entry bears this child, by the fork of a line
pub record IsBirthOf {J : Type 0} (trace : List Line) (process : ℕ) (e : Entry) (child : Living J) : Type 0 where
  pub number : ℕ
  pub counted : e.number ≡ number + 1
  pub forks : slice_get (calls_of trace process) number ≡ Some (fork_as child.process)
  pub is : child.proc.who ≡ e.what

abbrev pub IsBornBy : {J : Type 0} → List Line → ℕ → Entry → Option (Living J) → Type 0
IsBornBy trace process e (Some child) = IsBirthOf trace process e child
IsBornBy trace process e None = ⊥

-- a child that has just begun, with no entry by it
pub record IsKid {J : Type 0} (session : Session) (trace : List Line) (kid : Living J) : Type 0 where
  pub living : IsLivingOf session trace kid
  pub silent : (n : ℕ) (e : Entry) → slice_get kid.proc.seen n ≡ Some e → e.who ≢ kid.proc.who

abbrev pub IsKidIfAny : {J : Type 0} → Session → List Line → Option (Living J) → Type 0
IsKidIfAny session trace (Some kid) = IsKid session trace kid
IsKidIfAny session trace None = Unit {0}

abbrev pub kid_left : {J : Type 0} → List Line → Option (Living J) → ℕ
kid_left trace (Some kid) = left_at trace kid.process kid.line
kid_left trace None = 0

-- a child was borne by the line at this place
pub record IsForkedAt (trace : List Line) (line : Option ℕ) (child : ℕ) : Type 0 where
  pub place : ℕ
  pub its : Line
  pub is : line ≡ Some place
  pub stands : slice_get trace place ≡ Some its
  pub forks : its.call ≡ fork_as child

-- what a turn of a living process does
pub record HasWent {J : Type 0} (session : Session) (places : ℕ) (trace : List Line) (before : Living J) (w : Went J) : Type 0 where
  pub walker : IsWalkerOf session places trace w.walker
  pub process : (member_of w.walker).process ≡ before.process
  pub who : (member_of w.walker).who ≡ before.proc.who
  pub begins : IsPrefix before.proc.seen (member_of w.walker).seen
  pub kid : IsKidIfAny session trace w.kid
  pub births : (n : ℕ) (e : Entry) (out : ℕ) (descriptors : Held) → slice_get (member_of w.walker).seen n ≡ Some e → length before.proc.seen ≤ n
      → e.who ≡ before.proc.who → e.act ≡ act.Born out descriptors → IsBornBy trace before.process e w.kid
  pub moved : w.answer ≡ turn.Moved → left_of trace w.walker + (1 + kid_left trace w.kid) ≡ left_at trace before.process before.line
  pub stayed : w.answer ≢ turn.Moved → (left_of trace w.walker ≡ left_at trace before.process before.line) × (w.kid ≡ None)
  pub goes_on : w.answer ≢ turn.Ended
  pub waits : w.answer ≡ turn.Waiting → Waits session trace (member_of w.walker)
  pub fails : w.answer ≡ turn.Failed → (l : LeftProcess J) × (w.walker ≡ kinds.Left l)
  pub legal : IsLegal session (member_of w.walker).seen
  pub counts : (n : ℕ) (e : Entry) → slice_get (member_of w.walker).seen n ≡ Some e → length before.proc.seen ≤ n → e.who ≡ before.proc.who
      → e.number ≡ next_number before.proc.seen before.proc.who
  pub over : w.answer ≡ turn.Moved → is_over (member_of w.walker).seen before.proc.who (next_number before.proc.seen before.proc.who) ≡ true
  pub next : (l : Living J) → w.walker ≡ kinds.Living l → w.answer ≡ turn.Moved → next_number l.proc.seen before.proc.who ≡ next_number before.proc.seen before.proc.who + 1
  pub line : (l : Living J) → w.walker ≡ kinds.Living l → w.answer ≡ turn.Waiting → l.line ≡ before.line
  pub shares : (kid : Living J) → w.kid ≡ Some kid → kid.proc.seen ≡ (member_of w.walker).seen
  pub forks : (kid : Living J) → w.kid ≡ Some kid → IsForkedAt trace before.line kid.process

-- what a turn of a process does; one that has made its exit stays as it is, and so does one that was left
abbrev pub WalkerWent : {J : Type 0} → Session → ℕ → List Line → Walker J → Went J → Type 0
WalkerWent session places trace (kinds.Living l) w = HasWent session places trace l w
WalkerWent session places trace (kinds.Ended e) w = w ≡ record { walker = kinds.Ended e; answer = turn.Ended; kid = None }
WalkerWent session places trace (kinds.Left l) w = w ≡ record { walker = kinds.Left l; answer = turn.Failed; kid = None }
WalkerWent session places trace kinds.Gone w = ⊥
