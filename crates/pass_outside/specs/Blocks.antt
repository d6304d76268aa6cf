-- The bytes of an area, kept in blocks of one size.
use Rattle.std.specs.Prelude.{◌≡◌, ℕ, ◌+◌, ◌-◌, ◌≤◌, List, [], ◌∷◌, ◌++◌, length, take, drop, replicate, get_or, Vec}
use Rattle.std.specs.declared.alloc.Global.{Global}

-- the whole block: zeros stand where it isn't there
unfoldable pub padded : ℕ → List ℕ → List ℕ
padded size bytes = bytes ++ replicate (size - length bytes) 0

-- all blocks, one behind the other
abbrev pub flat : ℕ → List (Vec ℕ Global) → List ℕ
flat size [] = []
flat size (b ∷ bs) = padded size b.items ++ flat size bs

-- how much of each block is there
abbrev pub held : List (Vec ℕ Global) → List ℕ
held [] = []
held (b ∷ bs) = length b.items ∷ held bs

-- no block is longer than the size
abbrev pub AreWithin : ℕ → List (Vec ℕ Global) → Type 0
AreWithin size bs = (k : ℕ) → get_or (held bs) k 0 ≤ size

-- these bytes at this place, over what is there
abbrev pub over : List ℕ → ℕ → List ℕ → List ℕ
over old at bytes = take at old ++ bytes ++ drop (at + length bytes) old

-- the blocks of an area of that length: zeros stand behind it
pub record IsArea (size len : ℕ) (bs : List (Vec ℕ Global)) : Type 0 where
  pub within : AreWithin size bs
  pub enough : len ≤ length (flat size bs)
  pub zeros : flat size bs ≡ take len (flat size bs) ++ replicate (length (flat size bs) - len) 0
