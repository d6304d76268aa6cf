use Rattle.std.proofs.Common.{◌<◌, List, ◌++◌, length, reverse}
use Rattle.pass_entry.specs.declared.objects.Node.{Node}
use Rattle.pass_query.specs.Searches.{IsRoute}
use Rattle.pass_query.proofs.routes.route.Given as goal

abbrev pub invariant-loop-at : goal.invariant-loop-at
invariant-loop-at l = record {
  within : l.at < length l.reached;
  route : (w : List Node) → IsRoute l.reached l.at w → IsRoute l.reached l.place (w ++ reverse l.nodes.items);
}

abbrev pub decreases-loop-at : goal.decreases-loop-at
decreases-loop-at l = l.at
