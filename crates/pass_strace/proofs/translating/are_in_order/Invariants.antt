use Rattle.std.proofs.Common.{ℕ, ◌≤◌, ◌<◌, get_or}
use Rattle.pass_strace.proofs.translating.are_in_order.Given as goal

abbrev pub invariant-loop-i : goal.invariant-loop-i
invariant-loop-i l = record {
  below : (k : ℕ) → k < l.i → get_or l.origins k 0 ≤ l.before;
  rising : (j : ℕ) → j < l.i → (i : ℕ) → i ≤ j → get_or l.origins i 0 ≤ get_or l.origins j 0;
  within : (i : ℕ) → i < l.i → get_or l.origins i 0 ≤ l.count;
}
