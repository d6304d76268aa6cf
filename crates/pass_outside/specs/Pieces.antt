-- How much one call of a stream in memory moves (this project's own rule).
use Rattle.std.specs.Prelude.{ℕ, min, Option, Some, None}

-- of so many bytes all, or no more than the step
abbrev pub in_step : Option ℕ → ℕ → ℕ
in_step None count = count
in_step (Some step) count = min count step
