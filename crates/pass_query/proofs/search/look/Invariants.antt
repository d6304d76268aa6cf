use Rattle.std.proofs.Common.{◌≡◌, take}
use Rattle.pass_query.specs.Searches.{AreSeen, looked}
use Rattle.pass_query.proofs.search.look.Given as goal

abbrev pub invariant-loop-node : goal.invariant-loop-node
invariant-loop-node l = record {
  seen : AreSeen l.reached.items l.seen;
  looked : l.reached.items ≡ looked l.initial.reached.items l.place (take l.node-index l.row);
}
