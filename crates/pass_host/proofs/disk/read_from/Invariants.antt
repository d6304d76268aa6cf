use Rattle.std.proofs.Common.{◌≤◌, length}
use Rattle.pass_host.proofs.disk.read_from.Given as goal

abbrev pub invariant-loop : goal.invariant-loop
invariant-loop g l = l.count ≤ length l.into
