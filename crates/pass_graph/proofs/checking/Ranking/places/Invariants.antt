use Rattle.std.proofs.Common.{◌≡◌, take}
use Rattle.std.specs.Prelude.{map, unwrap_or}
use Rattle.std.specs.HashMap.{get}
use Rattle.pass_plain.specs.Versions.{same_node}
use Rattle.pass_graph.proofs.checking.Ranking.places.Given as goal

abbrev pub invariant-loop-node : goal.invariant-loop-node
invariant-loop-node l = l.places.items ≡ map (λ n. (n, unwrap_or (get same_node l.self.closed n) l.end)) (take l.node-index l.self.nodes.items)
