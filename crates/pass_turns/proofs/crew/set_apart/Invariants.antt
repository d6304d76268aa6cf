use Rattle.std.proofs.Common.{◌≡◌, ◌≤◌, ◌+◌, ◌-◌, ◌++◌, All, IsPermutation}
use Rattle.std.specs.Prelude.{vec_len, vec_capacity}
use Rattle.pass_turns.specs.Turners.{TurnerState}
use Rattle.pass_turns.proofs.crew.set_apart.Given as goal

abbrev pub invariant-loop-place : goal.invariant-loop-place
invariant-loop-place g l = record {
  room : vec_len l.ended + vec_len l.turning ≤ vec_capacity l.ended;
  same : IsPermutation (l.fn.turning.items ++ l.fn.ended.items) (l.turning.items ++ l.ended.items);
  ended : All (λ (t : TurnerState). t.left ≡ 0) l.fn.ended.items → All (λ (t : TurnerState). t.left ≡ 0) l.ended.items;
}

abbrev pub decreases-loop-place : goal.decreases-loop-place
decreases-loop-place g l = vec_len l.turning - l.place
