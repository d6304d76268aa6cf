use Rattle.std.proofs.Common.{◌≤◌, ◌-◌, length}
use Rattle.pass_recipe.specs.Queues.{AreMade}
use Rattle.pass_recipe.proofs.queue.Queue.first_missing.Given as goal

abbrev pub invariant-loop-place : goal.invariant-loop-place
invariant-loop-place l = record {
  from : l.from ≤ l.place;
  made : AreMade l.self.made l.nodes l.from l.place;
}

abbrev pub decreases-loop-place : goal.decreases-loop-place
decreases-loop-place l = length l.nodes - l.place
