use Rattle.std.proofs.Common.{take}
use Rattle.pass_reference.specs.Walks.{IsWalk}
use Rattle.pass_reference.proofs.walk.records_of.Given as goal

abbrev pub invariant-loop-i : goal.invariant-loop-i
invariant-loop-i l = IsWalk l.start (take l.i l.history) l.walk
