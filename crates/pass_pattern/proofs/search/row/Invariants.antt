use Rattle.std.proofs.Common.{◌≡◌, ◌+◌}
use Rattle.pass_pattern.proofs.search.row.Given as goal

abbrev pub invariant-loop-edge : goal.invariant-loop-edge
invariant-loop-edge g l = l.steps ≡ l.initial.steps + l._edge-index
