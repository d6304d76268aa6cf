-- What waits to be written, and what was written and isn't synced (this project's own rule).
use Rattle.std.specs.Prelude.{◌≡◌, ◌⊎◌, ℕ, ◌≤◌, Bool, true, false, List, slice_get, IsTrue, Some, None}
use Rattle.pass_outside.specs.Areas.{Image}
use Rattle.pass_outside.specs.Moments.{Moment, IsAtEnd}
use Rattle.pass_range.specs.Places.{place, Holds}
use Rattle.pass_pool.specs.declared.pool.FileBlock.{FileBlock}
use Rattle.pass_keep.specs.Kept.{Story, Noted, range_to}
use Rattle.pass_keep.specs.Dirty.{IsDirty, IsFree}
use Rattle.pass_vault.specs.Pooled.{Blocks, staged_in}

-- a staged block: its place is free, and its bytes are those that its range had after some of the entries
pub record IsPooled (s : Story) (noted : List Noted) (n : ℕ) (p : FileBlock × List ℕ) : Type 0 where
  pub free : IsFree s noted n p.0.number p.0.block
  pub bytes : p.1 ≡ range_to s free.count free.pnode p.0.block

-- The bytes of a block were written: a read gives them. While nothing is unsynced, each crash since this count leaves them.
pub record IsLanded (m : Moment) (unsynced : Bool) (since number block : ℕ) (bytes : List ℕ) : Type 0 where
  pub seen : IsTrue m.tells → Holds (place number block) bytes m.seen.store
  pub each : unsynced ≡ false → IsTrue m.tells → (c : Image) → m.left_since since c → Holds (place number block) bytes c.store

-- the block is in the pool with these bytes, or they were written
abbrev pub IsHandled : Moment → Blocks → Bool → ℕ → ℕ → ℕ → List ℕ → Type 0
IsHandled m pool unsynced since number block bytes = (staged_in pool number block ≡ Some bytes) ⊎ ((staged_in pool number block ≡ None) × IsLanded m unsynced since number block bytes)

-- where something is unsynced, no device call has failed
abbrev pub IsWell : Moment → Bool → ℕ → Type 0
IsWell m unsynced opened = unsynced ≡ true → (m.faults ≤ opened) × (IsAtEnd m → ⊥)

-- A block that is dirty on the disk after the durable entries, and clean by the list, is in the pool with its bytes then, or
-- was written with these.
pub record IsWaiting (s : Story) (noted : List Noted) (n : ℕ) (m : Moment) (pool : Blocks) (unsynced : Bool) (since opened : ℕ) (Clean : ℕ → ℕ → Type 0) : Type 0 where
  pub pooled : (i : ℕ) (p : FileBlock × List ℕ) → slice_get pool.entries i ≡ Some p → IsPooled s noted n p
  pub handled : IsWell m unsynced opened → (number block : ℕ) (d : IsDirty s noted n number block) → Clean d.pnode block
      → IsHandled m pool unsynced since number block (range_to s n d.pnode block)
