use Rattle.std.proofs.Common.{◌≤◌, ℕ, List}
use Rattle.std.specs.Prelude.{sum_by}
use Rattle.pass_trace.specs.declared.trace.TraceLine.{TraceLine}
use Rattle.pass_turns.specs.Tasks.{task_room}
use Rattle.pass_turns.specs.Turners.{AreTasks}
use Rattle.pass_turns.proofs.passes.passes.Given as goal

abbrev pub invariant-loop : goal.invariant-loop
invariant-loop g l = record {
  workers : (1 ≤ l.now) × (l.now ≤ 64);
  tasks : (lines : List TraceLine) (first : ℕ) → AreTasks lines first l.initial.crew → AreTasks lines first l.crew;
  room : sum_by task_room l.crew ≤ sum_by task_room l.initial.crew;
}
