use Rattle.std.proofs.Common.{◌<◌, ℕ}
use Rattle.pass_plain.specs.Calls.{act_on}
use Rattle.pass_plain.specs.NextSteps.{FitsFirst}
use Rattle.pass_reference.proofs.next.fits_some.Given as goal

abbrev pub invariant-loop-a : goal.invariant-loop-a
invariant-loop-a l = (k : ℕ) → k < l.a → FitsFirst l.who l.before l.made l.call (act_on l.what l.act) k → ⊥
