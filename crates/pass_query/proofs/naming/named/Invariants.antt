use Rattle.std.proofs.Common.{◌≡◌, take}
use Rattle.std.specs.List.{filter_map}
use Rattle.pass_query.proofs.Holders.{node_now}
use Rattle.pass_query.proofs.naming.named.Given as goal

abbrev pub invariant-loop-pnode : goal.invariant-loop-pnode
invariant-loop-pnode l = l.nodes.items ≡ filter_map (node_now l.index) (take l.pnode-index l.pnode-items)
