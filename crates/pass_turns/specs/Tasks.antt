-- The tasks of processes.
use Rattle.std.specs.Prelude.{ℕ, Bool, false, List, [], ◌∷◌, Option, Some, None, max}
use Rattle.pass_sched.specs.declared.task.Turn.{Turn}
use Rattle.pass_trace.specs.TraceLines.{plain_trace}
use Rattle.pass_trace.specs.declared.trace.TraceLine.{TraceLine}
use Rattle.pass_walk.specs.declared.walker.Living.{Living}
use Rattle.pass_walk.specs.declared.walker.Walker.{Walker}
use Rattle.pass_walk.specs.declared.walker.Walker.TheVariants as walker
use Rattle.pass_turns.specs.Turners.{TurnerState}
use Rattle.pass_walk.specs.Walkers.{member_of, left_of, cause_of}

abbrev pub task_of : {J : Type 0} → List TraceLine → Walker J → ℕ → Option Turn → Bool → TurnerState
task_of lines w turns last waits = record {
  lines = lines;
  process = (member_of w).process;
  who = (member_of w).who;
  seen = (member_of w).seen;
  ended = (member_of w).ended;
  left = left_of (plain_trace lines) w;
  turns = turns;
  last = last;
  waits = waits;
  cause = cause_of w;
}

abbrev pub new_task : {J : Type 0} → List TraceLine → Living J → TurnerState
new_task lines l = task_of lines (walker.Living l) 0 None false

abbrev pub kid_tasks : {J : Type 0} → List TraceLine → Option (Living J) → List TurnerState
kid_tasks lines (Some kid) = new_task lines kid ∷ []
kid_tasks lines None = []

-- how many tasks can come of one, itself with them
abbrev pub task_room : TurnerState → ℕ
task_room t = max 1 t.left
