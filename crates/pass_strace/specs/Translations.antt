-- What is said of a trace that comes from a text of strace. The rules are this project's own.
use Rattle.std.specs.Prelude.{ℕ, ◌-◌, ◌≤◌, ◌<◌, ◌||◌, ◌==◌, Bool, List, length, slice_index, count_by}

-- every line of the text ends with LF (10)
abbrev pub is_whole : List ℕ → Bool
is_whole text = (length text == 0) || (slice_index text (length text - 1) == 10)

-- how many lines end in the text
abbrev pub count_lines : List ℕ → ℕ
count_lines text = count_by (λ b. b == 10) text

-- A number for each line of a trace, none of them greater than that of a later line, nor than a count of lines of strace. What they
-- are for, which no clause says: the line of strace from which a line comes, or 0 for what was there before the run.
pub record IsInOrder (origins : List ℕ) (count : ℕ) : Type 0 where
  pub rising : (j : ℕ) → j < length origins → (i : ℕ) → i ≤ j → slice_index origins i ≤ slice_index origins j
  pub within : (i : ℕ) → i < length origins → slice_index origins i ≤ count
