use Rattle.std.proofs.Common.{◌+◌, ◌-◌, length}
use Rattle.pass_query.specs.Searches.{AreSeen}
use Rattle.pass_query.proofs.Counting.{IsCounted}
use Rattle.pass_query.proofs.search.walk_from.Given as goal

abbrev pub invariant-loop-next : goal.invariant-loop-next
invariant-loop-next g l = record {
  seen : AreSeen l.reached.items l.seen;
  search : IsCounted l.way l.walk.index.now l.first l.reached.items l.next l.fn.steps l.steps;
}

abbrev pub decreases-loop-next : goal.decreases-loop-next
decreases-loop-next g l = length l.walk.index.now + 1 - l.next
