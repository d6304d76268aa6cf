-- The processes of a run as tasks. This project's own rule.
use Rattle.std.specs.Prelude.{ℕ, ◌+◌, ◌≡◌, ◌≢◌, ◌≤◌, Bool, true, false, List, Option, Some, All, Contains, length, slice_get}
use mathlib.Core.List.{IsPrefix}
use Rattle.pass_entry.specs.declared.entry.Entry.{Entry}
use Rattle.pass_entry.specs.declared.entry.Act.TheVariants as act
use Rattle.pass_plain.specs.Legal.{is_over}
use Rattle.pass_plain.specs.Processes.{Held, has_ended}
use Rattle.pass_plain.specs.Sessions.{Session}
use Rattle.pass_plain.specs.Traces.{Line, fork_as, calls_of}
use Rattle.pass_sched.specs.declared.task.Turn.{Turn}
use Rattle.pass_trace.specs.TraceLines.{plain_trace}
use Rattle.pass_trace.specs.declared.trace.TraceLine.{TraceLine}
use Rattle.pass_proc.specs.Ends.{TrailView}
use Rattle.pass_replay.specs.Members.{Member, MakesSteps, Waits}
use Rattle.pass_walk.specs.declared.ends.Cause.{Cause}
use Rattle.pass_walk.specs.Causes.{IsCauseOf}

-- a task: the lines of the trace, its process, its turns, whether it waits, and why it goes on no more
pub record TurnerState : Type 0 where
  pub lines : List TraceLine
  pub process : ℕ
  pub who : ℕ
  pub seen : List Entry
  pub ended : Bool
  pub left : ℕ
  pub turns : ℕ
  pub last : Option Turn
  pub waits : Bool
  pub cause : Option Cause

abbrev pub task_member : TurnerState → Member
task_member t = record { process = t.process; who = t.who; seen = t.seen; ended = t.ended }

abbrev pub task_trail : TurnerState → TrailView
task_trail t = record { who = t.who; seen = t.seen }

-- a child that has made no entry
pub record IsNewTask (lines : List TraceLine) (t : TurnerState) : Type 0 where
  pub same : t.lines ≡ lines
  pub silent : (n : ℕ) (e : Entry) → slice_get t.seen n ≡ Some e → e.who ≢ t.who

-- a task of this process is among them
pub record HasTask (tasks : List TurnerState) (process who : ℕ) : Type 0 where
  pub task : TurnerState
  pub among : Contains tasks task
  pub number : task.process ≡ process
  pub is : task.who ≡ who

-- the entry bears one of these children, by the fork of a line
pub record IsBirthAmong (trace : List Line) (tasks : List TurnerState) (process : ℕ) (e : Entry) : Type 0 where
  pub number : ℕ
  pub child : ℕ
  pub counted : e.number ≡ number + 1
  pub forks : slice_get (calls_of trace process) number ≡ Some (fork_as child)
  pub there : HasTask tasks child e.what

-- what turns do beyond what each turn does: the process is the same, has seen more, and each child that it bore is there
pub record Turned (before : TurnerState) (kids : List TurnerState) (after : TurnerState) : Type 0 where
  pub lines : after.lines ≡ before.lines
  pub process : after.process ≡ before.process
  pub who : after.who ≡ before.who
  pub begins : IsPrefix before.seen after.seen
  pub new_tasks : All (IsNewTask before.lines) kids
  pub births : (n : ℕ) (e : Entry) (out : ℕ) (descriptors : Held) → slice_get after.seen n ≡ Some e → length before.seen ≤ n
      → e.who ≡ before.who → e.act ≡ act.Born out descriptors → IsBirthAmong (plain_trace before.lines) kids before.process e

-- what a task knows of its process
pub record IsKnown (session : Session) (places : ℕ) (t : TurnerState) : Type 0 where
  pub makes : MakesSteps (plain_trace t.lines) t.process t.who t.seen
  pub ended : t.ended ≡ true → is_over t.seen t.who (length (calls_of (plain_trace t.lines) t.process)) ≡ true
  pub through : t.left ≡ 0 → t.ended ≡ true
  pub living : t.ended ≡ false → has_ended t.seen t.who ≡ false
  pub cause : (cause : Cause) → t.cause ≡ Some cause → IsCauseOf session places (plain_trace t.lines) (task_member t) cause

-- the tasks of one run: the first one is there, and each child that was borne
pub record AreTasks (lines : List TraceLine) (first : ℕ) (tasks : List TurnerState) : Type 0 where
  pub first_is : HasTask tasks 1 first
  pub each : All (λ t. t.lines ≡ lines) tasks
  pub bears : (t : TurnerState) → Contains tasks t → (n : ℕ) (e : Entry) (out : ℕ) (descriptors : Held) → slice_get t.seen n ≡ Some e → e.who ≡ t.who
      → e.act ≡ act.Born out descriptors → IsBirthAmong (plain_trace lines) tasks t.process e

-- it goes on no more, as others do: it has ended and seen no more, or it lives, has seen as much, and waits
pub record IsStill (session : Session) (count : ℕ) (t : TurnerState) : Type 0 where
  pub ended : t.ended ≡ true → length t.seen ≤ count
  pub living : t.ended ≡ false → length t.seen ≡ count
  pub waits : t.ended ≡ false → Waits session (plain_trace t.lines) (task_member t)

-- one of them lives
pub record HasLiving (tasks : List TurnerState) : Type 0 where
  pub one : TurnerState
  pub among : Contains tasks one
  pub lives : one.ended ≡ false

-- none goes on, and some live
pub record AreAllStill (session : Session) (tasks : List TurnerState) : Type 0 where
  pub count : ℕ
  pub some : HasLiving tasks
  pub all : All (IsStill session count) tasks

-- one was left for this cause
pub record HasLeftFor (tasks : List TurnerState) (cause : Cause) : Type 0 where
  pub one : TurnerState
  pub among : Contains tasks one
  pub is : one.cause ≡ Some cause
