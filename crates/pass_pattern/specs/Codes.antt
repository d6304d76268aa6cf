-- The code of a pattern.
use Rattle.std.specs.Prelude.{ℕ, ◌≡◌, ◌≤◌, List, length, Option, Some, slice_get}
use Rattle.std.specs.List.{sum_by}
use Rattle.pass_pattern.specs.declared.pattern.EdgeTest.{EdgeTest}
use Rattle.pass_pattern.specs.declared.code.Instruction.{Instruction}
use Rattle.pass_pattern.specs.declared.code.Instruction.TheVariants.{Found, Along, Both}
use Rattle.pass_pattern.specs.Patterns.{Shape, atoms}
use Rattle.pass_pattern.specs.Patterns.Shape.{One, Then, Or, Many}

-- the code stays where it stands, and more may come behind it
pub record IsGrown (old new : List Instruction) : Type 0 where
  pub longer : length old ≤ length new
  pub kept : (place : ℕ) (i : Instruction) → slice_get old place ≡ Some i → slice_get new place ≡ Some i

-- From the place `from` on stands code of the shape: it begins at the place `start`, and goes on at the place `next` behind it.
pub data HasCode (code : List Instruction) (from : ℕ) : Shape → ℕ → ℕ → Type 0 where
  one : {edge : EdgeTest} {name : Option (List ℕ)} {start next : ℕ} → from ≤ start → slice_get code start ≡ Some (Along edge name next)
      → HasCode code from (One edge name) start next
  both : {p q : Shape} {start middle next : ℕ} → HasCode code from p start middle → HasCode code from q middle next → HasCode code from (Then p q) start next
  either : {p q : Shape} {start left right next : ℕ} → from ≤ start → slice_get code start ≡ Some (Both left right)
      → HasCode code from p left next → HasCode code from q right next → HasCode code from (Or p q) start next
  many : {p : Shape} {start inner next : ℕ} → from ≤ start → slice_get code start ≡ Some (Both inner next)
      → HasCode code from p inner start → HasCode code from (Many p) start next

abbrev pub edges_of : Instruction → ℕ
edges_of Found = 0
edges_of (Along edge name next) = 1
edges_of (Both left right) = 0

-- how many instructions of the code go along edges
abbrev pub edges_in : List Instruction → ℕ
edges_in code = sum_by edges_of code

-- code of the whole shape, in which a path begins at the place `start` and ends at the first place
pub record IsCode (code : List Instruction) (shape : Shape) (start : ℕ) : Type 0 where
  pub ends : slice_get code 0 ≡ Some Found
  pub has : HasCode code 1 shape start 0
  pub edges : edges_in code ≡ atoms shape
