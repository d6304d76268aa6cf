-- What passes have made of the processes of a run.
use Rattle.std.specs.Prelude.{ℕ, ◌+◌, ◌≡◌, List, All, map}
use Rattle.pass_plain.specs.Sessions.{Session}
use Rattle.pass_trace.specs.declared.trace.TraceLine.{TraceLine}
use Rattle.pass_proc.specs.Ends.{TrailView}
use Rattle.pass_walk.specs.declared.ends.Cause.{Cause}
use Rattle.pass_walk.specs.Causes.{IsSeen}
use Rattle.pass_walk.specs.declared.ends.Last.{Last}
use Rattle.pass_walk.specs.declared.ends.Last.TheVariants as lasts
use Rattle.pass_turns.specs.Turners.{TurnerState, AreTasks, AreAllStill, HasLeftFor, IsKnown, task_trail}

pub record IsPerformed (session : Session) (places : ℕ) (lines : List TraceLine) (trails : List TrailView) (last : Last) : Type 0 where
  pub tasks : List TurnerState
  pub are : AreTasks lines (session.start.ceiling + 1) tasks
  pub known : All (IsKnown session places) tasks
  pub trails_are : trails ≡ map task_trail tasks
  pub done : last ≡ lasts.Done → All (λ t. t.left ≡ 0) tasks
  pub stuck : last ≡ lasts.Stuck → AreAllStill session tasks
  pub failed : (cause : Cause) → last ≡ lasts.Failed cause → IsSeen cause → HasLeftFor tasks cause
