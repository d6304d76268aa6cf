-- A keeper, and what it has kept (this project's own rule).
use Rattle.std.specs.Prelude.{◌≡◌, ◌⊎◌, ℕ, ◌+◌, ◌<◌, ◌≤◌, Bool, false, List, [], ◌∷◌, ◌++◌, length, map, slice_get, Some, IsTrue, Vec}
use Rattle.std.specs.Vec.{vec_len, vec_capacity}
use Rattle.std.specs.declared.alloc.Global.{Global}
use Rattle.pass_entry.specs.declared.entry.Synced.{Synced}
use Rattle.pass_entry.specs.declared.record.Record.{Record}
use Rattle.pass_outside.specs.Areas.{Image}
use Rattle.pass_outside.specs.Moments.{Moment, IsAtEnd}
use Rattle.pass_log.specs.declared.log.Log.{Log}
use Rattle.pass_keep.specs.declared.block.Block.{Block}
use Rattle.pass_keep.specs.declared.fault.KeepFault.{KeepFault}
use Rattle.pass_keep.specs.declared.fault.KeepFault.TheVariants.{DiskFault}
use Rattle.pass_keep.specs.declared.keeper.Keeper.{Keeper}
use Rattle.pass_keep.specs.Kept.{Story, IsStory, Noted, synced_of, IsKept, AreParts}
use Rattle.pass_keep.specs.Dirty.{IsFree, AreWritten, AreThere}
use Rattle.pass_keep.specs.Parts.{AreFrames}

-- its disk
abbrev pub disk_of : {D : Type 0} → Keeper D → D
disk_of k = k.disk

-- its log
abbrev pub log_of : {D : Type 0} → Keeper D → Log
log_of k = k.log

-- how many entries are durable
abbrev pub durable_of : {D : Type 0} → Keeper D → ℕ
durable_of k = k.durable

-- its syncs
abbrev pub syncs_of : {D : Type 0} → Keeper D → List Synced
syncs_of k = k.syncs.items

-- a session so far, and the syncs that came
pub record Past : Type 0 where
  pub story : Story
  pub noted : List Noted

-- one sync more: the count of device calls then, the durable entries, and the files of which no block was dirty
abbrev pub with_sync : Past → ℕ → ℕ → (ℕ → Bool) → Past
with_sync past calls entries files = record past { noted = past.noted ++ record { calls = calls; entries = entries; files = files } ∷ [] }

-- no file
abbrev pub no_file : ℕ → Bool
no_file number = false

-- what a keeper keeps of a session
pub record IsKeeper {D : Type 0} (view : D → Moment) (past : Past) (k : Keeper D) : Type 0 where
  pub story : IsStory past.story
  pub kept : IsKept past.story (view k.disk) k.log k.durable past.noted
  pub syncs : k.syncs.items ≡ map synced_of past.noted

-- room for so many syncs more
abbrev pub HasSpare : {D : Type 0} → ℕ → Keeper D → Type 0
HasSpare n k = vec_len k.syncs + n ≤ vec_capacity k.syncs

-- one sync takes room for one
abbrev pub TakesSpare : {D : Type 0} → Keeper D → Keeper D → Type 0
TakesSpare old new = (n : ℕ) → HasSpare (n + 1) old → HasSpare n new

-- whatever a call answers, the disk tells what it told, its counts never fall, and one at its end stands there
abbrev pub GoesOn : Moment → Moment → Type 0
GoesOn old new = (new.tells ≡ old.tells) × (old.faults ≤ new.faults) × (old.calls ≤ new.calls) × (IsAtEnd old → IsAtEnd new)

-- so many device calls were made, and none failed
abbrev pub Made : ℕ → Moment → Moment → Type 0
Made n old new = (new.calls ≡ old.calls + n) × (new.faults ≡ old.faults)

-- a device call failed, and the fault tells the count of faults when the log was opened and the one now
abbrev pub Failed : ℕ → Moment → Moment → KeepFault → Type 0
Failed opened old new fault = (fault ≡ DiskFault opened new.faults) × ((old.faults < new.faults) ⊎ IsAtEnd new)

-- whatever it keeps is kept
abbrev pub KeptStill : {D : Type 0} → (D → Moment) → Keeper D → Keeper D → Type 0
KeptStill view k new = (past : Past) → IsKeeper view past k → IsKeeper view past new

-- of each session that has these frames: its entries are durable up to this one
abbrev pub KeptFlushed : {D : Type 0} → (D → Moment) → List (Vec ℕ Global) → ℕ → Keeper D → Keeper D → Type 0
KeptFlushed view frames upto k new = (past : Past) (parts : List (List Record)) → IsKeeper view past k → upto ≤ length past.story.history
    → AreParts past.story k.durable upto parts → AreFrames parts frames → IsKeeper view (with_sync past (view new.disk).calls upto no_file) new

-- or as many as before
abbrev pub KeptUnflushed : {D : Type 0} → (D → Moment) → List (Vec ℕ Global) → ℕ → Keeper D → Keeper D → Type 0
KeptUnflushed view frames upto k new = (past : Past) (parts : List (List Record)) → IsKeeper view past k → upto ≤ length past.story.history
    → AreParts past.story k.durable upto parts → AreFrames parts frames → IsKeeper view past new

-- Of each session in which the places of these blocks are free, and each dirty block of some files is one of them, or has its
-- bytes in the store area already: now none of these files is dirty.
abbrev pub KeptSynced : {D : Type 0} → (D → Moment) → List Block → Keeper D → Keeper D → Type 0
KeptSynced view blocks k new = (past : Past) (files : ℕ → Bool) → IsKeeper view past k → (IsTrue (view k.disk).tells → AreWritten past.story past.noted k.durable files blocks (view k.disk).seen.store)
    → IsKeeper view (with_sync past (view new.disk).calls k.durable files) new

-- or what was clean is clean
abbrev pub KeptUnsynced : {D : Type 0} → (D → Moment) → List Block → Keeper D → Keeper D → Type 0
KeptUnsynced view blocks k new = (past : Past) → IsKeeper view past k
    → (IsTrue (view k.disk).tells → (i : ℕ) (x : Block) → slice_get blocks i ≡ Some x → IsFree past.story past.noted k.durable x.number x.block) → IsKeeper view past new

-- of each session of whose files each crash leaves the bytes of the dirty blocks: none is dirty
abbrev pub KeptClean : {D : Type 0} → (D → Moment) → Keeper D → Keeper D → Type 0
KeptClean view k new = (past : Past) (files : ℕ → Bool) → IsKeeper view past k
    → (IsTrue (view k.disk).tells → (c : Image) → (view k.disk).may_leave c → AreThere past.story past.noted k.durable files c.store)
    → IsKeeper view (with_sync past (view new.disk).calls k.durable files) new
