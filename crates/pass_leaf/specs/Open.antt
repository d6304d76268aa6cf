-- An archive that is open to keep versions.
use Rattle.std.specs.Prelude.{ℕ, ◌+◌, ◌*◌, ◌<◌, ◌≤◌, ◌≡◌, ◌⊎◌, ◌^◌, Bool, true, false, List, [], ◌∷◌, ◌++◌, length, take, drop, Result, OnOk, OnErr, IfErr, IsErrOf, IsTrue}
use Rattle.pass_outside.specs.Areas.{Image}
use Rattle.pass_outside.specs.Moments.{Moment, Adds, IsDeviceWork}
use Rattle.pass_log.specs.Log.{LeavesStore}
use Rattle.pass_leaf.specs.declared.fault.OldFault.{OldFault}
use Rattle.pass_leaf.specs.declared.fault.OldFault.TheVariants as faults
use Rattle.pass_leaf.specs.declared.shelf.Shelf.{Shelf}
use Rattle.pass_leaf.specs.declared.stock.Stock.{Stock}
use Rattle.pass_leaf.specs.declared.tail.Tail.{Tail}
use Rattle.pass_leaf.specs.Leaves.{Leaf, leaf_bytes}
use Rattle.pass_leaf.specs.Contents.{last_content}
use Rattle.pass_leaf.specs.Keeping.{leaf_from, FileVersion}
use Rattle.pass_leaf.specs.Gatherings.{frames_size, Gathering, all_of}
use Rattle.pass_leaf.specs.Archives.{Archive, IsArchive}
use Rattle.pass_leaf.specs.Reads.{IsStock, EndsThere}

-- the first leaves are those of the disk, and there is room for the others
pub record IsOpen (m : Moment) (stock : Stock) (tail : Tail) : Type 0 where
  pub stocked : IsStock stock
  pub ends : EndsThere tail (take stock.written stock.leaves) m
  pub room : (stock.frames.items ≡ []) ⊎ (tail.end + length stock.frames.items < 2 ^ 39)

-- its parts, as contracts see them
abbrev pub archive_of : {A : Type 0} → Shelf A → Archive A
archive_of shelf = record {
  disk = shelf.disk;
  leaves = take shelf.stock.written shelf.stock.leaves;
  end = shelf.tail.end;
  opened = shelf.tail.opened;
  gathered = drop shelf.stock.written shelf.stock.leaves;
}

-- what an archive has, with no batch written yet
abbrev pub gathering_of : {A : Type 0} → Archive A → Gathering
gathering_of a = record { written = a.leaves; gathered = a.gathered; batches = 0 }

-- nothing was written: it reads as before, and a crash leaves what it might have left
pub record IsUnwritten (before after : Moment) : Type 0 where
  pub reads : after.seen ≡ before.seen
  pub crash : (c : Image) → after.may_leave c → before.may_leave c
  pub moments : Adds before after before.may_leave

-- the leaves on its disk, and those that are gathered
abbrev pub all_leaves : {A : Type 0} → Archive A → List Leaf
all_leaves a = a.leaves ++ a.gathered

-- where it would end with those that are gathered
abbrev pub whole_end : {A : Type 0} → Archive A → ℕ
whole_end a = a.end + frames_size a.gathered

-- with the leaf of one version more gathered
abbrev pub with_next : {A : Type 0} → Archive A → FileVersion → Archive A
with_next a v = record { disk = a.disk; leaves = a.leaves; end = a.end; opened = a.opened; gathered = a.gathered ++ leaf_from (last_content (all_leaves a) v.node.pnode) v.node v.bytes ∷ [] }

-- a log area has the one leaves or the others
abbrev pub IsOneOf : List Leaf → List Leaf → List ℕ → Type 0
IsOneOf old new log = (end : ℕ) × (IsArchive log old end ⊎ IsArchive log new end)

-- where an archive that ends there would end with the frame of that version's leaf
abbrev pub next_end : List Leaf → ℕ → FileVersion → ℕ
next_end leaves end v = end + 5 + length (leaf_bytes (leaf_from (last_content leaves v.node.pnode) v.node v.bytes))

-- Why a version above its file's last leaf isn't kept: its leaf's frame would take the archive's end to 2 ^ 39 or above; or it has
-- room, and a device call failed; or memory was refused.
abbrev pub IsUnkept : List Leaf → ℕ → FileVersion → OldFault → Type 0
IsUnkept leaves end v faults.DiskFault = next_end leaves end v < 2 ^ 39
IsUnkept leaves end v (faults.BadFrame at) = (at ≡ end) × (2 ^ 39 ≤ next_end leaves end v)
IsUnkept leaves end v faults.NoMemory = Unit {0}
IsUnkept leaves end v (faults.Broken opened now) = ⊥
IsUnkept leaves end v faults.NoVersion = ⊥

-- where an archive ends after the keeping of one version, whose leaf was put behind the others or not
abbrev pub EndsAfter : List Leaf → ℕ → FileVersion → ℕ → Bool → Type 0
EndsAfter leaves end v new_end true = (new_end ≡ next_end leaves end v) × (new_end < 2 ^ 39)
EndsAfter leaves end v new_end false = new_end ≡ end

-- After a failed device call all is gathered, and no more on the disk; after another fault nothing has moved.
abbrev pub StaysGathered : {A : Type 0} → Archive A → Archive A → Gathering → OldFault → Type 0
StaysGathered old new goal e = ((e ≡ faults.DiskFault) × (all_leaves new ≡ all_of goal)) ⊎ (new.gathered ≡ old.gathered)

-- What a call has made of an archive whose leaves were to become these, and how a crash meanwhile leaves it.
pub record HasMoved {A T : Type 0} (view : A → Moment) (old new : Archive A) (goal : Gathering) (result : Result T OldFault) : Type 0 where
  pub opened : new.opened ≡ old.opened
  pub moved : OnOk result ((new.leaves ≡ goal.written) × (new.gathered ≡ goal.gathered))
  pub stays : OnErr result ((new.leaves ≡ old.leaves) × (new.end ≡ old.end))
  pub gathered : IfErr result (StaysGathered old new goal)
  -- a batch takes four device calls, and without one the disk is left alone
  pub calls : OnOk result ((view new.disk).calls ≡ (view old.disk).calls + 4 * goal.batches)
  pub alone : goal.batches ≡ 0 → (new.disk ≡ old.disk) × (new.end ≡ old.end)
  pub tried : IfErr result (λ e. e ≡ faults.DiskFault → 1 ≤ goal.batches)
  pub untouched : IfErr result (λ e. (e ≡ faults.DiskFault) ⊎ (new.disk ≡ old.disk))
  -- once a batch is written each crash leaves it, also one at a moment since its last device call
  pub acknowledged : OnOk result (1 ≤ goal.batches → IsTrue (view old.disk).tells → (c : Image) → (view new.disk).may_leave c → IsArchive c.log new.leaves new.end)
  pub since : OnOk result (1 ≤ goal.batches → IsTrue (view old.disk).tells → (c : Image) → (view new.disk).left_since (view new.disk).calls c → IsArchive c.log new.leaves new.end)
  -- a crash at any moment leaves the leaves that were on the disk, or these and the whole batch
  pub any_moment : IsTrue (view old.disk).tells → Adds (view old.disk) (view new.disk) (λ c. IsOneOf old.leaves (all_of goal) c.log)
  -- where each crash left those that were on the disk, each leaves them after any answer, or these and the whole batch
  pub crash : IsTrue (view old.disk).tells → ((c : Image) → (view old.disk).may_leave c → IsArchive c.log old.leaves old.end)
      → (c : Image) → (view new.disk).may_leave c → IsOneOf old.leaves (all_of goal) c.log
  pub store : LeavesStore (view old.disk) (view new.disk)
  pub work : IsDeviceWork (view old.disk) (view new.disk) (IsErrOf result faults.DiskFault)

-- What the writing of a batch behind leaves has made of an archive, and how a crash meanwhile leaves it.
pub record HasAppended {T : Type 0} (before after : Moment) (tail new_tail : Tail) (leaves gathered : List Leaf) (result : Result T OldFault) : Type 0 where
  pub ends : OnOk result (EndsThere new_tail (leaves ++ gathered) after)
  pub stays : OnErr result (EndsThere new_tail leaves after)
  pub acknowledged : OnOk result (IsTrue before.tells → (c : Image) → after.may_leave c → IsArchive c.log (leaves ++ gathered) new_tail.end)
  pub any_moment : IsTrue before.tells → Adds before after (λ c. IsOneOf leaves (leaves ++ gathered) c.log)
  pub crash : IsTrue before.tells → ((c : Image) → before.may_leave c → IsArchive c.log leaves tail.end) → (c : Image) → after.may_leave c → IsOneOf leaves (leaves ++ gathered) c.log
