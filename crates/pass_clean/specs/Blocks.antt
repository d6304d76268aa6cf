-- Blocks of a file with their bytes, in order.
use Rattle.std.specs.Prelude.{◌≡◌, ℕ, ◌<◌, Bool, true, List, slice_get, Some}
use Rattle.pass_entry.specs.Limits.{block_count}
use Rattle.pass_entry.specs.declared.entry.Entry.{Entry}
use Rattle.pass_plain.specs.Files.{file_after}
use Rattle.pass_plain.specs.Sessions.{Session}
use Rattle.pass_range.specs.Rows.{range}
use Rattle.pass_book.specs.declared.view.VaultSync.{VaultSync}
use Rattle.pass_clean.specs.Cleaned.{is_dirty}

-- the block is one of these
pub record IsGiven (blocks : List (ℕ × List ℕ)) (block : ℕ) : Type 0 where
  pub i : ℕ
  pub x : ℕ × List ℕ
  pub is : slice_get blocks i ≡ Some x
  pub same : x.0 ≡ block

-- by block
abbrev pub IsRisingBy : List (ℕ × List ℕ) → Type 0
IsRisingBy blocks = (i j : ℕ) (x y : ℕ × List ℕ) → i < j → slice_get blocks i ≡ Some x → slice_get blocks j ≡ Some y → x.0 < y.0

-- the blocks below a number that pass a test, with the bytes of their ranges
pub record AreListed (test : ℕ → Bool) (content : List ℕ) (below : ℕ) (blocks : List (ℕ × List ℕ)) : Type 0 where
  pub each : (i : ℕ) (x : ℕ × List ℕ) → slice_get blocks i ≡ Some x → (x.0 < below) × (test x.0 ≡ true) × (x.1 ≡ range x.0 content)
  pub all : (block : ℕ) → block < below → test block ≡ true → IsGiven blocks block
  pub rising : IsRisingBy blocks

-- the dirty blocks of a file after a history, with their bytes then, by these syncs
unfoldable pub AreDirty : Session → List Entry → List VaultSync → ℕ → List (ℕ × List ℕ) → Type 0
AreDirty session history syncs file blocks = AreListed (is_dirty session history syncs file) (file_after session history file) block_count blocks
