use Rattle.std.proofs.Common.{◌≡◌, ◌≤◌, take}
use Rattle.pass_ask.specs.Checks.{node_count}
use Rattle.pass_ask.proofs.counting.count_nodes.Given as goal

abbrev pub invariant-loop-one : goal.invariant-loop-one
invariant-loop-one l = (l.nodes ≡ node_count (take l.one-index l.list)) × (l.nodes ≤ l.one-index)
