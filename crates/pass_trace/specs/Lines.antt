-- The lines of a text and the words of a line. All rules here are this project's own.
use Rattle.std.specs.Prelude.{ℕ, Bool, true, List, [], ◌∷◌, if◌then◌else◌, ◌==◌, ◌||◌, length, nat_lt}
use Rattle.std.specs.List.{list_any, slice_split, onto_first}
use Rattle.pass_trace.specs.declared.limits.Scale.{Scale}
use Rattle.pass_trace.specs.Limits.{longest_line, most_lines}

-- the lines of a text: each ends with LF (10), and what stands behind the last LF is a line where it isn't empty
abbrev pub lines_of : List ℕ → List (List ℕ)
lines_of [] = []
lines_of (b ∷ bs) = if b == 10 then [] ∷ lines_of bs else onto_first b (lines_of bs)

-- there are more lines than a text may have, or one has more bytes than a line may have
abbrev pub is_too_long : Scale → List ℕ → Bool
is_too_long scale text = nat_lt (most_lines scale) (length (lines_of text)) || list_any (λ line. nat_lt longest_line (length line)) (lines_of text)

-- a line that says nothing: it is empty, or begins with `#` (35)
abbrev pub is_skipped : List ℕ → Bool
is_skipped [] = true
is_skipped (b ∷ bs) = b == 35

-- the words of a line: one space (32) stands between two of them, so two spaces have an empty word between them
abbrev pub words_of : List ℕ → List (List ℕ)
words_of line = slice_split (λ b. b == 32) line
