-- The pool of a vault: what a staging puts into it, and what a sync of a file writes from it (this project's own rule).
use Rattle.std.specs.Prelude.{◌≡◌, ℕ, zero, suc, ◌+◌, ◌==◌, Bool, true, false, not, List, [], ◌∷◌, ◌++◌, Option, Some, None, filter}
use Rattle.std.specs.Map.{lookup}
use Rattle.lru.specs.LruCache.{LruCache, lru_cache}
use Rattle.pass_entry.specs.Limits.{block_count}
use Rattle.pass_pool.specs.declared.pool.FileBlock.{FileBlock}
use Rattle.pass_pool.specs.Pools.{is_block, staged, pushed_out}

-- how many blocks a vault's pool has room for
abbrev pub pool_capacity : ℕ
pool_capacity = 4096

abbrev pub Blocks : Type 0
Blocks = LruCache FileBlock (List ℕ)

-- the bytes of a block of the file of this number, where it is staged
abbrev pub staged_in : Blocks → ℕ → ℕ → Option (List ℕ)
staged_in pool number block = lookup (is_block number block) pool.entries

-- the bytes that are given for a block
abbrev pub given_in : List (ℕ × List ℕ) → ℕ → Option (List ℕ)
given_in given block = lookup (λ b. b == block) given

-- what a sync of the file writes for a block: the bytes that are given, else those that are staged
abbrev pub else_staged : Option (List ℕ) → Option (List ℕ) → Option (List ℕ)
else_staged (Some bytes) waiting = Some bytes
else_staged None waiting = waiting

abbrev pub bytes_for : Blocks → ℕ → List (ℕ × List ℕ) → ℕ → Option (List ℕ)
bytes_for pool number given block = else_staged (given_in given block) (staged_in pool number block)

abbrev pub one_of : ℕ → Option (List ℕ) → List (ℕ × List ℕ)
one_of block None = []
one_of block (Some bytes) = (block, bytes) ∷ []

-- of the blocks below a number
abbrev pub written_below : Blocks → ℕ → List (ℕ × List ℕ) → ℕ → List (ℕ × List ℕ)
written_below pool number given zero = []
written_below pool number given (suc n) = written_below pool number given n ++ one_of n (bytes_for pool number given n)

-- what a sync of the file writes, by block: the given blocks, and its staged ones that aren't given
unfoldable pub to_write : Blocks → ℕ → List (ℕ × List ℕ) → List (ℕ × List ℕ)
to_write pool number given = written_below pool number given block_count

-- after a sync of the file none of its blocks waits
abbrev pub without_file : ℕ → Blocks → Blocks
without_file number pool = lru_cache (filter (λ p. not (number == p.0.number)) pool.entries) pool.cap

-- with one block more, or other bytes of one
abbrev pub with_block : Blocks → ℕ → ℕ × List ℕ → Blocks
with_block pool number b = lru_cache (staged pool (record { number = number; block = b.0 }) b.1) pool.cap

-- after a staging of blocks of the file
abbrev pub staged_all : Blocks → ℕ → List (ℕ × List ℕ) → Blocks
staged_all pool number [] = pool
staged_all pool number (b ∷ bs) = staged_all (with_block pool number b) number bs

abbrev pub list_of : Option (FileBlock × List ℕ) → List (FileBlock × List ℕ)
list_of None = []
list_of (Some p) = p ∷ []

-- what it pushes out of the pool, in order
abbrev pub pushed_all : Blocks → ℕ → List (ℕ × List ℕ) → List (FileBlock × List ℕ)
pushed_all pool number [] = []
pushed_all pool number (b ∷ bs) = list_of (pushed_out pool (record { number = number; block = b.0 })) ++ pushed_all (with_block pool number b) number bs

-- where it pushes blocks out they are written, and something is unsynced then; else that stays
abbrev pub Unsyncs : List (FileBlock × List ℕ) → Bool → Bool → Type 0
Unsyncs pushed old new = (old ≡ true → new ≡ true) × (pushed ≡ [] → new ≡ old) × ((pushed ≡ [] → ⊥) → new ≡ true)

-- how many device calls a sync of a file makes that writes so many blocks: none where there is nothing to write and nothing
-- was written since the last one
abbrev pub sync_calls : Bool → ℕ → ℕ
sync_calls unsynced (suc n) = suc n + 1
sync_calls true zero = 1
sync_calls false zero = 0
