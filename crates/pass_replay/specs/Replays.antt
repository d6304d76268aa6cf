-- What the members of a run make of the store's history. This project's own rule.
use Rattle.std.specs.Prelude.{ℕ, ◌+◌, ◌≡◌, ◌≤◌, true, false, List, [], ◌∷◌, Some, Contains, slice_get}
use mathlib.Core.List.{IsPrefix}
use Rattle.pass_entry.specs.declared.entry.Entry.{Entry}
use Rattle.pass_entry.specs.declared.entry.CallName.TheVariants as call_name
use Rattle.pass_plain.specs.Histories.{call_entries, is_fault}
use Rattle.pass_plain.specs.Sessions.{Session}
use Rattle.pass_plain.specs.Places.{left_places}
use Rattle.pass_plain.specs.Traces.{Line, LineCall, calls_of}
use Rattle.pass_plain.specs.Runs.{IsRun, pnode_of_process}
use Rattle.pass_replay.specs.Ends.{NoneOpen, IsStuck}
use Rattle.pass_replay.specs.Lines.{AreLinesBehind}
use Rattle.pass_replay.specs.Making.{first_entry}
use Rattle.pass_replay.specs.Needs.{need_of_line, places_of}
use Rattle.pass_replay.specs.Starts.{HasRoom}
use Rattle.pass_replay.specs.Members.{Member, AreMembers, IsHistoryOf, AreStill}

-- a trace was run by these members over a store of the session, and this is the store's history at the end
pub record HasRun (session : Session) (trace : List Line) (members : List Member) (history : List Entry) : Type 0 where
  pub ordered : AreLinesBehind [] trace
  pub room : HasRoom session trace
  pub starts : IsPrefix (first_entry session ∷ []) history
  pub made : AreMembers (session.start.ceiling + 1) trace members
  pub told : IsHistoryOf session members history

-- the history is a run of the trace
abbrev pub RunLaw : Type 0
RunLaw = (session : Session) (trace : List Line) (members : List Member) (history : List Entry) → HasRun session trace members history → IsRun session trace history

-- where all members have made their exit, no process is open
abbrev pub DoneLaw : Type 0
DoneLaw = (session : Session) (trace : List Line) (members : List Member) (history : List Entry) → HasRun session trace members history
    → ((m : Member) → Contains members m → m.ended ≡ true) → NoneOpen session trace history

-- where no member goes on, the run is stuck
abbrev pub StuckLaw : Type 0
StuckLaw = (session : Session) (trace : List Line) (members : List Member) (history : List Entry) (count : ℕ) → HasRun session trace members history
    → AreStill session trace members count → IsStuck session trace history

-- no fork is refused
abbrev pub ForkLaw : Type 0
ForkLaw = (session : Session) (trace : List Line) (members : List Member) (history : List Entry) → HasRun session trace members history
    → (k : ℕ) (e : Entry) → slice_get history k ≡ Some e → e.call ≡ call_name.Fork → is_fault e.reply ≡ false

-- where the places of the trace are reserved, no call finds too few: whatever its process has seen, those that a line's call needs are left
-- before its first entry
abbrev pub PlacesLaw : Type 0
PlacesLaw = (session : Session) (trace : List Line) (members : List Member) (history : List Entry) → HasRun session trace members history
    → (reserved : ℕ) → places_of trace ≤ reserved → (m : Member) → Contains members m → pnode_of_process session trace m.seen m.process ≡ Some m.who
    → (done : ℕ) (call : LineCall) → slice_get (calls_of trace m.process) done ≡ Some call → call_entries m.seen m.who (done + 1) ≡ []
    → need_of_line call ≤ left_places reserved m.seen
