use Rattle.std.proofs.Common.{◌≤◌, length}
use Rattle.passtrace.proofs.programs.fill.Given as goal

abbrev pub invariant-pieces : goal.invariant-pieces
invariant-pieces g l = l.count ≤ length l.into
