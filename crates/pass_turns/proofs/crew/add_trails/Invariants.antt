use Rattle.std.proofs.Common.{◌≡◌, ◌≤◌, ◌++◌, map, vec_capacity}
use Rattle.std.specs.List.{All}
use Rattle.pass_turns.specs.Turners.{IsKnown, task_trail}
use Rattle.pass_turns.proofs.crew.add_trails.Given as goal

abbrev pub invariant-loop-task : goal.invariant-loop-task
invariant-loop-task g l = record {
  items : l.trails.items ≡ l.fn.trails.items ++ map task_trail l.yielded;
  known : All (IsKnown g.J.Whose.book.session g.J.Whose.places) l.yielded;
  room : vec_capacity l.fn.trails ≤ vec_capacity l.trails;
}
