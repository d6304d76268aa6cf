-- What a pool of blocks hands out and keeps.
use Rattle.std.specs.Prelude.{ℕ, ◌-◌, ◌==◌, ◌&&◌, Bool, List, ◌∷◌, take, slice_get, Option, None, is_some, if◌then◌else◌}
use Rattle.std.specs.List.{IsDistinct}
use Rattle.std.specs.Map.{lookup, remove_entry, keys_of}
use Rattle.lru.specs.LruCache.{LruCache}
use Rattle.pass_pool.specs.declared.pool.FileBlock.{FileBlock}
use Rattle.pass_pool.specs.declared.pool.Evicted.{Evicted}

-- the block of this file number and this place
abbrev pub is_block : ℕ → ℕ → FileBlock → Bool
is_block number block at = (number == at.number) && (block == at.block)

-- no block is there twice
abbrev pub AreOnce : List (FileBlock × List ℕ) → Type 0
AreOnce pairs = IsDistinct (λ a b. is_block a.number a.block b) (keys_of pairs)

abbrev pub evicted_of : FileBlock × List ℕ → Evicted
evicted_of p = record { number = p.0.number; block = p.0.block; bytes = p.1 }

module _ (pool : LruCache FileBlock (List ℕ)) (key : FileBlock) where
  abbrev pub is_there : Bool
  is_there = is_some (lookup (is_block key.number key.block) pool.entries)

  -- the block goes first, in the place of one that is there; a new one pushes the last one out of a full pool
  abbrev pub staged : List ℕ → List (FileBlock × List ℕ)
  staged bytes = (key, bytes) ∷ (if is_there then remove_entry (is_block key.number key.block) pool.entries else take (pool.cap - 1) pool.entries)

  -- what it hands out
  abbrev pub pushed_out : Option (FileBlock × List ℕ)
  pushed_out = if is_there then None else slice_get pool.entries (pool.cap - 1)
