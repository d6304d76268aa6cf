use Rattle.std.proofs.Common.{◌≡◌, ◌<◌, ℕ}
use Rattle.std.specs.Prelude.{slice_get, Some}
use Rattle.pass_turns.specs.Meetings.{GoesOn}
use Rattle.pass_turns.specs.Turners.{TurnerState}
use Rattle.pass_turns.proofs.crew.first_living.Given as goal

abbrev pub invariant-loop-place : goal.invariant-loop-place
invariant-loop-place g l = (k : ℕ) (t : TurnerState) → k < l.place → slice_get l.fn.tasks k ≡ Some t → GoesOn t → ⊥
