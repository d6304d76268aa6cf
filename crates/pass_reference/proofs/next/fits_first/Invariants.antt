use Rattle.std.proofs.Common.{◌<◌, ℕ}
use Rattle.pass_plain.specs.Calls.{act_on}
use Rattle.pass_plain.specs.NextSteps.{Fits}
use Rattle.pass_reference.proofs.next.fits_first.Given as goal

abbrev pub invariant-loop-b : goal.invariant-loop-b
invariant-loop-b l = (k : ℕ) → k < l.b → Fits l.who l.before l.made l.call (act_on l.what l.act) l.a k → ⊥
