-- Where the bytes of a block stand on the store area (this project's own format).
use Rattle.std.specs.Prelude.{◌≡◌, ◌⊎◌, ℕ, ◌+◌, ◌*◌, ◌≤◌, List, ◌++◌, length, take, drop, replicate}
use Rattle.pass_entry.specs.Limits.{block_size, block_count}

-- where a block of the file of that number begins
abbrev pub place : ℕ → ℕ → ℕ
place number block = (number * block_count + block) * block_size

-- so many bytes as an area gives them there, zero past its end
abbrev pub found_there : ℕ → ℕ → List ℕ → List ℕ
found_there at len area = take len (drop at area ++ replicate len 0)

-- what an area has there of a block's bytes, as far as it reaches
abbrev pub stands_there : ℕ → List ℕ → List ℕ
stands_there at area = take block_size (drop at area)

-- the area has these bytes there
abbrev pub Holds : ℕ → List ℕ → List ℕ → Type 0
Holds at bytes area = take (length bytes) (drop at area) ≡ bytes

-- two ranges of an area, each with its first place and its length, have no byte in common
abbrev pub IsApart : ℕ → ℕ → ℕ → ℕ → Type 0
IsApart at len other other_len = (at + len ≤ other) ⊎ (other + other_len ≤ at)
