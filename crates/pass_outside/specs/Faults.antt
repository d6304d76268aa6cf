-- Counts of faults: how a caller sees which calls failed (this project's own rule).
use Rattle.std.specs.Prelude.{◌≡◌, ◌⊎◌, ℕ, ◌<◌, Result, IsOk, IsErr}

-- where a count of calls or faults ends: 2 ^ 64 - 1
abbrev pub count_end : ℕ
count_end = 18446744073709551615

-- a count rose: it is greater than before, or it stood at its end and stands there
abbrev pub HasRisen : ℕ → ℕ → Type 0
HasRisen old new = (old < new) ⊎ ((old ≡ count_end) × (new ≡ old))

-- a count didn't rise: it is as before, and not at its end
abbrev pub HasStayed : ℕ → ℕ → Type 0
HasStayed old new = (new ≡ old) × (old ≡ count_end → ⊥)

-- a call fails exactly where the count of faults rose in it
pub record FailsByCount {T E : Type 0} (old new : ℕ) (result : Result T E) : Type 0 where
  pub ok : IsOk result → HasStayed old new
  pub err : IsErr result → HasRisen old new
