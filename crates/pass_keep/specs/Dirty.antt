-- Blocks that are to be written (this project's own rule).
use Rattle.std.specs.Prelude.{◌≡◌, ◌⊎◌, ℕ, ◌+◌, ◌<◌, ◌≤◌, Bool, true, List, length, take, slice_get, Some, IsTrue}
use Rattle.pass_entry.specs.Limits.{block_count}
use Rattle.pass_outside.specs.Areas.{Image}
use Rattle.pass_outside.specs.Moments.{Moment, Adds, AfterStep, Follows}
use Rattle.pass_plain.specs.Records.{block_size}
use Rattle.pass_range.specs.Places.{place, Holds, IsApart}
use Rattle.pass_range.specs.Dirtied.{dirtied_at}
use Rattle.pass_range.specs.Rows.{number_of}
use Rattle.pass_keep.specs.declared.block.Block.{Block}
use Rattle.pass_keep.specs.Kept.{Story, Noted, list_to, source_to, range_to, covered}

-- A block of the file of that number is dirty after the first n entries: an act made it so that no sync covers.
pub record IsDirty (s : Story) (noted : List Noted) (n number block : ℕ) : Type 0 where
  pub pnode : ℕ
  pub numbered : number_of (list_to s n) pnode ≡ Some number
  pub limited : block < block_count
  pub at : ℕ
  pub dirtied : dirtied_at s.session (take n s.history) pnode block ≡ Some at
  pub uncovered : covered noted number ≤ at

-- a dirty block with the bytes of its range
abbrev pub IsDirtyBlock : Story → List Noted → ℕ → Block → Type 0
IsDirtyBlock s noted n x = (dirty : IsDirty s noted n x.number x.block) × (x.bytes.now ≡ range_to s n dirty.pnode x.block)

-- the block is one of these
pub record IsAmong (blocks : List Block) (number block : ℕ) : Type 0 where
  pub i : ℕ
  pub x : Block
  pub is : slice_get blocks i ≡ Some x
  pub of_file : x.number ≡ number
  pub at_block : x.block ≡ block

-- These are dirty blocks with their bytes, and of the files with these numbers they are all.
pub record AreDirty (s : Story) (noted : List Noted) (n : ℕ) (files : ℕ → Bool) (blocks : List Block) : Type 0 where
  pub each : (i : ℕ) (x : Block) → slice_get blocks i ≡ Some x → IsDirtyBlock s noted n x
  pub all : (number block : ℕ) → files number ≡ true → IsDirty s noted n number block → IsAmong blocks number block

-- The place of a block is free after the first n entries: an earlier act wrote it so that no sync covers, and whatever row it
-- has after them comes from there or later. Any bytes may stand there.
pub record IsFree (s : Story) (noted : List Noted) (n number block : ℕ) : Type 0 where
  pub count : ℕ
  pub within : count ≤ n
  pub pnode : ℕ
  pub numbered : number_of (list_to s count) pnode ≡ Some number
  pub at : ℕ
  pub source : source_to s count pnode block ≡ Some at
  pub uncovered : covered noted number ≤ at

-- the block is one of these, with these bytes
pub record HasBlock (blocks : List Block) (number block : ℕ) (bytes : List ℕ) : Type 0 where
  pub i : ℕ
  pub x : Block
  pub is : slice_get blocks i ≡ Some x
  pub of_file : x.number ≡ number
  pub at_block : x.block ≡ block
  pub same : x.bytes.now ≡ bytes

-- it is none of these
abbrev pub IsElsewhere : List Block → ℕ → ℕ → Type 0
IsElsewhere blocks number block = (i : ℕ) (x : Block) → slice_get blocks i ≡ Some x → x.number ≡ number → x.block ≡ block → ⊥

-- The places of these are free, and each dirty block of the files with these numbers is one of them with its bytes, or its
-- bytes stand in the store area already.
pub record AreWritten (s : Story) (noted : List Noted) (n : ℕ) (files : ℕ → Bool) (blocks : List Block) (store : List ℕ) : Type 0 where
  pub each : (i : ℕ) (x : Block) → slice_get blocks i ≡ Some x → IsFree s noted n x.number x.block
  pub all : (number block : ℕ) → files number ≡ true → (d : IsDirty s noted n number block)
      → HasBlock blocks number block (range_to s n d.pnode block) ⊎ (IsElsewhere blocks number block × Holds (place number block) (range_to s n d.pnode block) store)

-- each dirty block of the files with these numbers has its bytes in the store area
abbrev pub AreThere : Story → List Noted → ℕ → (ℕ → Bool) → List ℕ → Type 0
AreThere s noted n files store = (number block : ℕ) → files number ≡ true → (d : IsDirty s noted n number block) → Holds (place number block) (range_to s n d.pnode block) store

-- by file, and by block in a file
abbrev pub IsAscending : List Block → Type 0
IsAscending blocks = (i j : ℕ) (x y : Block) → i < j → slice_get blocks i ≡ Some x → slice_get blocks j ≡ Some y
    → (x.number < y.number) ⊎ ((x.number ≡ y.number) × (x.block < y.block))

-- each lies within the places of a file, and has no more bytes than a block
abbrev pub AreSized : List Block → Type 0
AreSized blocks = (i : ℕ) (x : Block) → slice_get blocks i ≡ Some x → (x.block < block_count) × (length x.bytes.now ≤ block_size)

-- a range of the store area has no byte in common with any of these
abbrev pub IsApartFrom : List Block → ℕ → ℕ → Type 0
IsApartFrom blocks at len = (i : ℕ) (x : Block) → slice_get blocks i ≡ Some x → IsApart at len (place x.number x.block) (length x.bytes.now)

-- the store area has the bytes of each of the first n
abbrev pub AreHeld : List Block → ℕ → List ℕ → Type 0
AreHeld blocks n store = (i : ℕ) (x : Block) → i < n → slice_get blocks i ≡ Some x → Holds (place x.number x.block) x.bytes.now store

-- beside these blocks nothing changes: the log area stays, and so does what stands in a range apart from them
pub record Beside (blocks : List Block) (old new : Image) : Type 0 where
  pub log : new.log ≡ old.log
  pub stays : (at : ℕ) (bytes : List ℕ) → IsApartFrom blocks at (length bytes) → Holds at bytes old.store → Holds at bytes new.store

-- while blocks are written, before the sync: after n of them
pub record IsWriting (blocks : List Block) (old mid : Moment) (n : ℕ) : Type 0 where
  pub tells : mid.tells ≡ old.tells
  pub faults : mid.faults ≡ old.faults
  pub calls : mid.calls ≡ old.calls + n
  pub beside : Follows (Beside blocks) old mid
  pub adds : Adds old mid (AfterStep (Beside blocks) old)
  pub log : IsTrue old.tells → mid.seen.log ≡ old.seen.log
  pub held : IsTrue old.tells → AreHeld blocks n mid.seen.store
  pub seen : IsTrue old.tells → Beside blocks old.seen mid.seen
