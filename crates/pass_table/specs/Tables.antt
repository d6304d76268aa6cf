-- Bytes in blocks.
use Rattle.std.specs.Prelude.{◌≡◌, ℕ, ◌*◌, ◌-◌, ◌<◌, ◌≤◌, List, [], ◌∷◌, ◌++◌, length, drop, replicate, Option, Some, None, Vec}
use Rattle.std.specs.declared.alloc.Global.{Global}
use Rattle.pass_entry.specs.Limits.{block_size, block_count}

-- a block without bytes is zero
unfoldable pub zeros : List ℕ
zeros = replicate block_size 0

abbrev pub bytes_of : Option (Vec ℕ Global) → List ℕ
bytes_of None = zeros
bytes_of (Some own) = own.items

-- all bytes, one block behind the other
abbrev pub flat : List (Option (Vec ℕ Global)) → List ℕ
flat [] = []
flat (b ∷ table) = bytes_of b ++ flat table

-- each block has so many bytes
abbrev pub AreWhole : ℕ → List (Option (Vec ℕ Global)) → Type 0
AreWhole size [] = Unit {0}
AreWhole size (b ∷ table) = (length (bytes_of b) ≡ size) × AreWhole size table

-- blocks that are zero
abbrev pub AreZero : List (Vec ℕ Global) → Type 0
AreZero [] = Unit {0}
AreZero (own ∷ spare) = (own.items ≡ zeros) × AreZero spare

-- a file's bytes, and up to which end it may grow
pub record BlocksView : Type 0 where
  pub bytes : List ℕ
  pub room : ℕ

-- what a table of blocks keeps: it has a place for each block of the file and of the room, behind the size it is zero, and while there
-- is room it has two spare blocks, since what one call writes lies in at most two
pub record IsTable (table : List (Option (Vec ℕ Global))) (spare : List (Vec ℕ Global)) (size room : ℕ) : Type 0 where
  pub whole : AreWhole block_size table
  pub few : length table ≤ block_count
  pub low : size ≤ length table * block_size
  pub zero : drop size (flat table) ≡ replicate (length (flat table) - size) 0
  pub spares : AreZero spare
  pub enough : 0 < room → 2 ≤ length spare
  pub covered : room ≤ length table * block_size
