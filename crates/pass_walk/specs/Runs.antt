-- What the run of a trace makes of a store's history.
use Rattle.std.specs.Prelude.{ℕ, ◌+◌, ◌≡◌, ◌≢◌, ◌≤◌, true, List, [], All, Contains, map}
use mathlib.Core.List.{IsPrefix}
use Rattle.pass_entry.specs.declared.entry.Entry.{Entry}
use Rattle.pass_plain.specs.Lawful.{AgreeBy}
use Rattle.pass_plain.specs.Legal.{IsLegal}
use Rattle.pass_plain.specs.Runs.{IsRun}
use Rattle.pass_plain.specs.Sessions.{Session}
use Rattle.pass_plain.specs.Traces.{Line}
use Rattle.pass_trace.specs.TraceLines.{plain_trace}
use Rattle.pass_trace.specs.Rules.{count_created}
use Rattle.pass_trace.specs.declared.trace.TraceLine.{TraceLine}
use Rattle.pass_proc.specs.Ends.{TrailView}
use Rattle.pass_replay.specs.Ends.{NoneOpen, IsStuck}
use Rattle.pass_replay.specs.Lines.{AreLinesBehind}
use Rattle.pass_replay.specs.Members.{Member, AreMembers, AreStill}
use Rattle.pass_replay.specs.Needs.{places_of}
use Rattle.pass_replay.specs.Replays.{HasRun}
use Rattle.pass_walk.specs.Causes.{IsCauseOf, IsSeen}
use Rattle.pass_walk.specs.declared.ends.Cause.{Cause}
use Rattle.pass_walk.specs.declared.ends.Cause.TheVariants as causes
use Rattle.pass_walk.specs.declared.ends.Last.{Last}
use Rattle.pass_walk.specs.declared.ends.Last.TheVariants as lasts

abbrev pub trail_of : Member → TrailView
trail_of m = record { who = m.who; seen = m.seen }

-- one of the members was left for this cause
pub record IsSomeCause (session : Session) (places : ℕ) (trace : List Line) (members : List Member) (cause : Cause) : Type 0 where
  pub one : Member
  pub among : Contains members one
  pub is : IsCauseOf session places trace one cause

-- A trace was run, by members that had seen this at the end, and it ended so.
pub record IsRanBy (session : Session) (places : ℕ) (trace : List Line) (trails : List TrailView) (last : Last) : Type 0 where
  pub members : List Member
  pub trails_are : trails ≡ map trail_of members
  pub made : AreMembers (session.start.ceiling + 1) trace members
  pub done : last ≡ lasts.Done → (m : Member) → Contains members m → m.ended ≡ true
  pub stuck : last ≡ lasts.Stuck → (count : ℕ) × AreStill session trace members count
  pub failed : (cause : Cause) → last ≡ lasts.Failed cause → IsSeen cause → IsSomeCause session places trace members cause

-- The history is a run of the trace, which ended so: no process is open, or none can move, or it failed; and never for want of places or for a fork
-- that was refused.
pub record IsRanTo (session : Session) (trace : List Line) (history : List Entry) (last : Last) : Type 0 where
  pub members : List Member
  pub has : HasRun session trace members history
  pub run : IsRun session trace history
  pub done : last ≡ lasts.Done → NoneOpen session trace history
  pub stuck : last ≡ lasts.Stuck → IsStuck session trace history
  pub enough : last ≢ lasts.Failed causes.TooFewPlaces
  pub forked : last ≢ lasts.Failed causes.Refused

-- the history of the store begins with what each had seen, and has no other entries by it
abbrev pub IsTold : List Entry → List TrailView → Type 0
IsTold history trails = All (λ (t : TrailView). IsPrefix t.seen history × AgreeBy t.who t.seen history) trails

abbrev pub RanLaw : Type 0
RanLaw = (session : Session) (places : ℕ) (lines : List TraceLine) (trails : List TrailView) (last : Last) (history : List Entry) → AreLinesBehind [] (plain_trace lines)
    → session.objects ≡ 1 + count_created lines → places_of (plain_trace lines) ≤ places → IsRanBy session places (plain_trace lines) trails last
    → IsLegal session history → IsTold history trails → IsRanTo session (plain_trace lines) history last
