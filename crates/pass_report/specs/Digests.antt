-- The blocks of one file that get a digest.
use Rattle.std.specs.Prelude.{ℕ, ◌+◌, ◌*◌, ◌==◌, Bool, false, not, ◌&&◌, ◌||◌, List, length, filter, get_or, max, nat_lt, if◌then◌else◌}
use Rattle.std.specs.List.{range_with_len}
use Rattle.pass_entry.specs.Limits.{block_size}
use Rattle.pass_plain.specs.Records.{touches, range_len}

-- how many of the first blocks pass
unfoldable pub passing : (ℕ → Bool) → ℕ → ℕ
passing test n = length (filter test (range_with_len 0 n))

-- the size of a file after a write
abbrev pub put_size : ℕ → ℕ → ℕ → ℕ
put_size size at len = if len == 0 then size else max size (at + len)

-- a block has a digest, as `had` says, and its part of the file gets another length
abbrev pub is_stretched : (ℕ → Bool) → ℕ → ℕ → ℕ → Bool
is_stretched had old new block = had block && nat_lt (block * block_size) new && not (range_len old block == range_len new block)

-- a block gets a digest: a byte of it is written, or it is stretched
abbrev pub gets_digest : (ℕ → Bool) → ℕ → ℕ → ℕ → ℕ → ℕ → Bool
gets_digest had old at len new block = touches at len block || is_stretched had old new block

abbrev pub row_at : List Bool → ℕ → Bool
row_at rows block = get_or rows block false
