use Rattle.std.proofs.Common.{◌≤◌, ◌<◌, ℕ}
use Rattle.pass_old.specs.Diffs.{Differs}
use Rattle.pass_old.proofs.diffing.first_same.Given as goal

abbrev pub invariant-loop-place : goal.invariant-loop-place
invariant-loop-place l = (p : ℕ) → l.from ≤ p → p < l.place → Differs l.a l.b p
