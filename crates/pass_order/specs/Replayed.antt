-- What a run in the order of the lines makes of a store's history. This project's own rule.
use Rattle.std.specs.Prelude.{◌+◌, ◌≡◌, ◌⊎◌, List, None}
use Rattle.pass_entry.specs.declared.entry.Entry.{Entry}
use Rattle.pass_plain.specs.Legal.{IsLegal}
use Rattle.pass_plain.specs.Sessions.{Session}
use Rattle.pass_plain.specs.Traces.{Line}
use Rattle.pass_proc.specs.Ends.{TrailView}
use Rattle.pass_replay.specs.Orders.{IsReplay, due}
use Rattle.pass_replay.specs.Starts.{HasRoom}
use Rattle.pass_trace.specs.Rules.{count_created}
use Rattle.pass_trace.specs.TraceLines.{plain_trace}
use Rattle.pass_trace.specs.declared.trace.TraceLine.{TraceLine}
use Rattle.pass_walk.specs.declared.ends.Last.{Last}
use Rattle.pass_walk.specs.declared.ends.Last.TheVariants as lasts
use Rattle.pass_walk.specs.Runs.{IsRanTo, IsTold}

-- each history of the store that goes on from what the processes have seen, by no entry of theirs, is a beginning of the replay of the trace
abbrev pub IsReplayedBy : Session → List Line → List TrailView → Type 0
IsReplayedBy session trace trails = (history : List Entry) → HasRoom session trace → IsLegal session history → IsTold history trails → IsReplay session trace history

-- the history is that of the replay; and where the run has come to its end, no call is due
pub record IsReplayedTo (session : Session) (trace : List Line) (history : List Entry) (last : Last) : Type 0 where
  pub replay : IsReplay session trace history
  pub whole : (last ≡ lasts.Done) ⊎ (last ≡ lasts.Stuck) → due session trace history ≡ None

abbrev pub ReplayedLaw : Type 0
ReplayedLaw = (session : Session) (lines : List TraceLine) (trails : List TrailView) (last : Last) (history : List Entry) → session.objects ≡ 1 + count_created lines
    → IsReplayedBy session (plain_trace lines) trails → IsLegal session history → IsTold history trails → IsRanTo session (plain_trace lines) history last
    → IsReplayedTo session (plain_trace lines) history last
