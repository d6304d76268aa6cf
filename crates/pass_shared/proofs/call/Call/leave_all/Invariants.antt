use Rattle.std.proofs.Common.{◌≡◌}
use Rattle.pass_shared.proofs.call.Call.leave_all.Given as goal

abbrev pub invariant-loop : goal.invariant-loop
invariant-loop g l = l.exiting.before ≡ l.fn.exiting.before
