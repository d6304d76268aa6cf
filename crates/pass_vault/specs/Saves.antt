-- What a write of a file's blocks and a sync leave, or where nothing is to be done no call (this project's own rule).
use Rattle.std.specs.Prelude.{◌≡◌, ◌⊎◌, ℕ, ◌<◌, ◌≤◌, Bool, true, false, List, ◌++◌, length, slice_get, Some, IsTrue}
use Rattle.std.specs.List.{All}
use Rattle.pass_outside.specs.Areas.{Image}
use Rattle.pass_outside.specs.Moments.{Moment}
use Rattle.pass_log.specs.Log.{log_opened}
use Rattle.pass_clean.specs.Blocks.{IsGiven}
use Rattle.pass_keep.specs.declared.block.Block.{Block}
use Rattle.pass_keep.specs.declared.keeper.Keeper.{Keeper}
use Rattle.pass_keep.specs.Kept.{Story, Noted, range_to}
use Rattle.pass_keep.specs.Dirty.{IsDirty, AreWritten, AreThere}
use Rattle.pass_keep.specs.Keepers.{Past, with_sync, disk_of, log_of, durable_of, IsKeeper}
use Rattle.pass_vault.specs.declared.unwritten.Unwritten.{Unwritten}
use Rattle.pass_vault.specs.Waiting.{IsLanded, IsWaiting}

-- of each session in which each dirty block of some files is one of these, or has its bytes in the store area, and where no call is
-- made on each image: now none of these files is dirty
abbrev pub KeptSaved : {D : Type 0} → (D → Moment) → Bool → List Block → Keeper D → Keeper D → Type 0
KeptSaved view unsynced blocks k new = (past : Past) (files : ℕ → Bool) → IsKeeper view past k
    → (IsTrue (view (disk_of k)).tells → AreWritten past.story past.noted (durable_of k) files blocks (view (disk_of k)).seen.store)
    → (length blocks ≡ 0 → unsynced ≡ false → IsTrue (view (disk_of k)).tells → (c : Image) → (view (disk_of k)).may_leave c → AreThere past.story past.noted (durable_of k) files c.store)
    → IsKeeper view (with_sync past (view (disk_of new)).calls (durable_of k) files) new

-- blocks of other files that were written are on each image from now on
abbrev pub Lands : {D : Type 0} → (D → Moment) → Bool → List Block → Keeper D → Keeper D → Type 0
Lands view unsynced blocks k new = (number since other block : ℕ) (bytes : List ℕ) → All (λ x. x.number ≡ number) blocks → since ≤ (view (disk_of k)).calls → (number ≡ other → ⊥) → block < 1024 → length bytes ≤ 4096
    → IsLanded (view (disk_of k)) unsynced since other block bytes → IsLanded (view (disk_of new)) false (view (disk_of new)).calls other block bytes

-- clean by a test, or among the blocks of a file that were staged since
abbrev pub Done : (ℕ → ℕ → Bool) → ℕ → List (ℕ × List ℕ) → ℕ → ℕ → Type 0
Done clean file staged f block = (clean f block ≡ true) ⊎ ((f ≡ file) × IsGiven staged block)

-- while blocks are staged
pub record IsStaging {D : Type 0} (view : D → Moment) (past : Past) (since : ℕ) (k : Keeper D) (u : Unwritten) (Clean : ℕ → ℕ → Type 0) : Type 0 where
  pub keeper : IsKeeper view past k
  pub waiting : IsWaiting past.story past.noted (durable_of k) (view (disk_of k)) u.pool u.unsynced since (log_opened (log_of k)) Clean

-- a dirty block of a file, with its bytes after the durable entries
pub record IsToStage (s : Story) (noted : List Noted) (n number file : ℕ) (x : ℕ × List ℕ) : Type 0 where
  pub dirty : IsDirty s noted n number x.0
  pub of_file : dirty.pnode ≡ file
  pub bytes : x.1 ≡ range_to s n dirty.pnode x.0

abbrev pub AreToStage : Story → List Noted → ℕ → ℕ → ℕ → List (ℕ × List ℕ) → Type 0
AreToStage s noted n number file blocks = (i : ℕ) (x : ℕ × List ℕ) → slice_get blocks i ≡ Some x → IsToStage s noted n number file x

-- somebody knows for which session these are staged
abbrev pub IsStageable : {D : Type 0} → (D → Moment) → Keeper D → Unwritten → ℕ → List (ℕ × List ℕ) → Type 0
IsStageable view k u number blocks = (past : Past) × (since : ℕ) × (clean : ℕ → ℕ → Bool) × (file : ℕ) × (staged : List (ℕ × List ℕ)) × (durable_of k ≤ length past.story.history)
    × IsStaging view past since k u (Done clean file staged) × AreToStage past.story past.noted (durable_of k) number file blocks

-- for whomever these are staged, they are
abbrev pub Stages : {D : Type 0} → (D → Moment) → ℕ → List (ℕ × List ℕ) → Keeper D → Unwritten → Keeper D → Unwritten → Type 0
Stages view number blocks k u new w = (past : Past) (since : ℕ) (clean : ℕ → ℕ → Bool) (file : ℕ) (staged : List (ℕ × List ℕ)) → durable_of k ≤ length past.story.history
    → IsStaging view past since k u (Done clean file staged) → AreToStage past.story past.noted (durable_of k) number file blocks → IsStaging view past since new w (Done clean file (staged ++ blocks))

-- or nothing that was clean was lost
abbrev pub StagesNone : {D : Type 0} → (D → Moment) → ℕ → List (ℕ × List ℕ) → Keeper D → Unwritten → Keeper D → Unwritten → Type 0
StagesNone view number blocks k u new w = (past : Past) (since : ℕ) (clean : ℕ → ℕ → Bool) (file : ℕ) (staged : List (ℕ × List ℕ)) → durable_of k ≤ length past.story.history
    → IsStaging view past since k u (Done clean file staged) → AreToStage past.story past.noted (durable_of k) number file blocks → IsStaging view past since new w (Done clean file staged)
