-- Where two contents differ. This project's own rule.
use Rattle.std.specs.Prelude.{ℕ, ◌+◌, ◌<◌, ◌≤◌, ◌≡◌, ◌↔◌, List, [], ◌∷◌, ◌++◌, Some, slice_get, flat_map, codes}
use Rattle.std.specs.Fmt.{decimal}
use Rattle.pass_old.specs.declared.diffing.ByteRange.{ByteRange}

-- two contents differ at a place: they have other bytes there, or one has none
abbrev pub Differs : List ℕ → List ℕ → ℕ → Type 0
Differs a b place = slice_get a place ≡ slice_get b place → ⊥

-- the place is in one of the ranges
abbrev pub IsIn : ℕ → List ByteRange → Type 0
IsIn place ranges = (i : ℕ) × (r : ByteRange) × (slice_get ranges i ≡ Some r) × (r.begin ≤ place) × (place < r.end)

-- The ranges in which two contents differ: none is empty, each ends below the next one's beginning, and in them are the places at
-- which the contents differ, and no other.
pub record AreDifferences (a b : List ℕ) (ranges : List ByteRange) : Type 0 where
  pub some : (i : ℕ) (r : ByteRange) → slice_get ranges i ≡ Some r → r.begin < r.end
  pub apart : (i : ℕ) (r s : ByteRange) → slice_get ranges i ≡ Some r → slice_get ranges (i + 1) ≡ Some s → r.end < s.begin
  pub exact : (place : ℕ) → IsIn place ranges ↔ Differs a b place

-- the line of a range: its first place, and the place behind its last
abbrev pub range_line : ByteRange → List ℕ
range_line r = codes "bytes " ++ decimal r.begin ++ codes " " ++ decimal r.end ++ 10 ∷ []

abbrev pub range_lines : List ByteRange → List ℕ
range_lines ranges = flat_map range_line ranges
