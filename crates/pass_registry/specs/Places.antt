-- Entries that stand in the order of their keys, and where a key has its place among them.
use Rattle.std.specs.Prelude.{ℕ, ◌≡◌, true, not, List, filter, length, slice_get, Some, Result, MatchResult}
use Rattle.std.specs.List.{AllWithin, HoldsAt}
use Rattle.std.specs.Ordering.{nat_cmp, eq_by_cmp}
use Rattle.std.specs.declared.cmp.Ordering.TheVariants.{Less, Equal, Greater}
use Rattle.std.specs.Cmp.Lexicographic.{slice_cmp}
use Rattle.std.specs.FinMap as finite_map
use Rattle.pass_plain.specs.declared.start.StartFile.{StartFile}
use Rattle.pass_plain.specs.Registries.{Names}

-- files by their names
abbrev pub Entries : Type 0
Entries = List (List ℕ × ℕ)

-- the map that the entries stand for
abbrev pub map_of : Entries → Names
map_of entries = finite_map.from_entries entries

-- the names ascend, and none stands twice
abbrev pub IsAscending : Entries → Type 0
IsAscending entries = finite_map.is_sorted (slice_cmp nat_cmp) entries ≡ true

-- where the name stands, or else where it has its place between those below and those above it
abbrev pub IsPlaceOf : List ℕ → Entries → Result ℕ ℕ → Type 0
IsPlaceOf name entries place =
    MatchResult place (HoldsAt (λ e. slice_cmp nat_cmp e.0 name ≡ Equal) entries)
    (λ i. AllWithin (λ e. slice_cmp nat_cmp e.0 name ≡ Less) entries 0 i
    × AllWithin (λ e. slice_cmp nat_cmp e.0 name ≡ Greater) entries i (length entries))

-- the names and their files, and for how many more names there is room
pub record NameState : Type 0 where
  pub names : Names
  pub room : ℕ

-- the entries but for that of the name
abbrev pub without : List ℕ → Entries → Entries
without name entries = filter (λ (e : List ℕ × ℕ). not (eq_by_cmp (slice_cmp nat_cmp) name e.0)) entries

-- no two files have the same name
abbrev pub IsNamedOnce : List StartFile → Type 0
IsNamedOnce files = (i j : ℕ) (a b : StartFile) (name : List ℕ) → slice_get files i ≡ Some a → slice_get files j ≡ Some b
    → a.name ≡ Some name → b.name ≡ Some name → i ≡ j
