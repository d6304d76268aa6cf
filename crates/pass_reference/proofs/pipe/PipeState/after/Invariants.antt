use Rattle.std.proofs.Common.{take}
use Rattle.pass_reference.specs.States.{IsPipe}
use Rattle.pass_reference.proofs.pipe.PipeState.after.Given as goal

abbrev pub invariant-loop-i : goal.invariant-loop-i
invariant-loop-i l = IsPipe (take l.i l.history) l.object l.state
