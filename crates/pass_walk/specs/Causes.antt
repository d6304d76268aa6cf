-- What holds of a process that goes on no more. This project's own rule.
use Rattle.std.specs.Prelude.{ℕ, ◌+◌, ◌≡◌, ◌<◌, true, List, [], Some, slice_get}
use Rattle.pass_entry.specs.declared.entry.Entry.{Entry}
use Rattle.pass_entry.specs.declared.entry.CallName.TheVariants as call_name
use Rattle.pass_plain.specs.Histories.{call_entries, is_fault}
use Rattle.pass_plain.specs.Places.{left_places}
use Rattle.pass_plain.specs.Runs.{pnode_of_process}
use Rattle.pass_plain.specs.Sessions.{Session}
use Rattle.pass_plain.specs.Traces.{Line, LineCall, calls_of}
use Rattle.pass_replay.specs.Members.{Member}
use Rattle.pass_replay.specs.Needs.{need_of_line}
use Rattle.pass_walk.specs.declared.ends.Cause.{Cause}
use Rattle.pass_walk.specs.declared.ends.Cause.TheVariants as causes

-- its next call has made no entry, and needs more places than are left by what it has seen
pub record LacksPlaces (session : Session) (places : ℕ) (trace : List Line) (m : Member) : Type 0 where
  pub done : ℕ
  pub call : LineCall
  pub stands : slice_get (calls_of trace m.process) done ≡ Some call
  pub right : pnode_of_process session trace m.seen m.process ≡ Some m.who
  pub none : call_entries m.seen m.who (done + 1) ≡ []
  pub lacks : left_places places m.seen < need_of_line call

-- a fork has ended with a fault
pub record HasRefusedFork (seen : List Entry) : Type 0 where
  pub place : ℕ
  pub entry : Entry
  pub stands : slice_get seen place ≡ Some entry
  pub forks : entry.call ≡ call_name.Fork
  pub fault : is_fault entry.reply ≡ true

-- why it goes on no more; want of memory and faults of the disk are free here
abbrev pub IsCauseOf : Session → ℕ → List Line → Member → Cause → Type 0
IsCauseOf session places trace m causes.NoMemory = Unit {0}
IsCauseOf session places trace m (causes.DiskFault opened now) = Unit {0}
IsCauseOf session places trace m causes.TooFewPlaces = LacksPlaces session places trace m
IsCauseOf session places trace m causes.Refused = HasRefusedFork m.seen

-- a cause that a process has seen: want of memory and faults of the disk come from outside of the history
abbrev pub IsSeen : Cause → Type 0
IsSeen causes.NoMemory = ⊥
IsSeen (causes.DiskFault opened now) = ⊥
IsSeen causes.TooFewPlaces = Unit {0}
IsSeen causes.Refused = Unit {0}
