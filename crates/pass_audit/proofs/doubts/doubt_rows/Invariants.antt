use Rattle.std.proofs.Common.{◌≡◌, ℕ, false}
use Rattle.std.specs.Ordering.{nat_cmp}
use Rattle.std.specs.BTreeMap.{get, btree_map_len}
use Rattle.std.specs.BTreeSet.{contains}
use Rattle.pass_audit.proofs.doubts.doubt_rows.Given as goal

abbrev pub invariant-loop-block : goal.invariant-loop-block
invariant-loop-block l = (b : ℕ) → contains nat_cmp l.doubts b ≡ false → (contains nat_cmp l.fn.doubts b ≡ false) × (get nat_cmp l.rest b ≡ get nat_cmp l.fn.rows b)

abbrev pub decreases-loop-block : goal.decreases-loop-block
decreases-loop-block l = btree_map_len l.rest
