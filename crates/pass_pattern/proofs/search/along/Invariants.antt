use Rattle.std.proofs.Common.{take}
use Rattle.pass_pattern.specs.Visits.{Adds, IsPassed}
use Rattle.pass_pattern.proofs.search.along.Given as goal

abbrev pub invariant-loop-node : goal.invariant-loop-node
invariant-loop-node l = Adds (IsPassed l.index (take l.node-index l.row) l.edge l.name l.next l.from) l.initial.visits.keys l.visits.keys
