use Rattle.std.proofs.Common.{◌≡◌, ◌<◌, ◌≤◌, ℕ, false}
use Rattle.std.specs.Ordering.{nat_cmp}
use Rattle.std.specs.BTreeSet.{contains}
use Rattle.pass_audit.proofs.doubts.doubt_range.Given as goal

abbrev pub invariant-loop-block : goal.invariant-loop-block
invariant-loop-block l = (b : ℕ) → contains nat_cmp l.doubts b ≡ false → (contains nat_cmp l.fn.doubts b ≡ false) × (l.from ≤ b → b < l.block → ⊥)
