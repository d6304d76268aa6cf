-- Some blocks of a file, by number.
use Rattle.std.specs.Prelude.{◌≡◌, ℕ, ◌*◌, ◌<◌, ◌≤◌, ◌==◌, Bool, true, List, length, get_or}
use Rattle.std.specs.List.{list_any}
use Rattle.pass_entry.specs.Limits.{block_size}

-- the blocks, and how many more there is room for
pub record BlockSetView : Type 0 where
  pub blocks : List ℕ
  pub room : ℕ

-- the block is one of these
abbrev pub is_among : List ℕ → ℕ → Bool
is_among blocks block = list_any (λ b. b == block) blocks

-- in ascending order, each once
abbrev pub IsRising : List ℕ → Type 0
IsRising blocks = (i j : ℕ) → i < j → j < length blocks → get_or blocks i 0 < get_or blocks j 0

-- the blocks before the place are below the block, and the others aren't
pub record IsPlace (blocks : List ℕ) (block place : ℕ) : Type 0 where
  pub within : place ≤ length blocks
  pub below : (k : ℕ) → k < place → get_or blocks k 0 < block
  pub above : (k : ℕ) → place ≤ k → k < length blocks → block ≤ get_or blocks k 0

-- each of the blocks begins before the end of the file
abbrev pub AreBelow : List ℕ → ℕ → Type 0
AreBelow blocks size = (block : ℕ) → is_among blocks block ≡ true → block * block_size < size
