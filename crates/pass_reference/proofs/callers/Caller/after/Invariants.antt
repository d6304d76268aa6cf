use Rattle.std.proofs.Common.{take}
use Rattle.pass_reference.specs.States.{IsCaller}
use Rattle.pass_reference.proofs.callers.Caller.after.Given as goal

abbrev pub invariant-loop-i : goal.invariant-loop-i
invariant-loop-i l = IsCaller (take l.i l.history) l.who l.caller
