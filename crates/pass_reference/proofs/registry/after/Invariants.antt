use Rattle.std.proofs.Common.{take}
use Rattle.pass_reference.specs.States.{IsRegistry}
use Rattle.pass_reference.proofs.registry.after.Given as goal

abbrev pub invariant-loop-i : goal.invariant-loop-i
invariant-loop-i l = IsRegistry l.start (take l.i l.history) l.state
