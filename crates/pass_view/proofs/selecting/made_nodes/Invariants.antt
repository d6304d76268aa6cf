use Rattle.std.proofs.Common.{◌≡◌, take}
use Rattle.pass_graph.specs.ListRanks.{graph_nodes}
use Rattle.pass_view.proofs.selecting.made_nodes.Given as goal

abbrev pub invariant-loop-one : goal.invariant-loop-one
invariant-loop-one l = l.nodes.items ≡ graph_nodes (take l.one-index l.records)
