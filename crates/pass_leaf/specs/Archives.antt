-- An archive: the leaves in the frames of a log area (this project's own format), and what a disk keeps of it.
use Rattle.std.specs.Prelude.{ℕ, ◌+◌, ◌<◌, ◌≤◌, ◌≡◌, ◌⊎◌, ◌==◌, Bool, true, List, length, take, drop, map, get_or, Ok, IsTrue}
use Rattle.pass_outside.specs.Areas.{Image}
use Rattle.pass_outside.specs.Moments.{Moment, IsAtEnd}
use Rattle.pass_log.specs.Frames.{frames_of, longest, number, IsFront}
use Rattle.pass_leaf.specs.declared.fault.OldFault.{OldFault}
use Rattle.pass_leaf.specs.declared.fault.OldFault.TheVariants as faults
use Rattle.pass_leaf.specs.Leaves.{Leaf, IsFormed, leaf_bytes, IsNoLeaf}
use Rattle.pass_leaf.specs.Contents.{last_version, AreLeaves}

-- a log area with these bytes has the frames of these leaves, and ends there
pub record IsArchive (bytes : List ℕ) (leaves : List Leaf) (end : ℕ) : Type 0 where
  pub frames : frames_of bytes ≡ Ok (record { list = map leaf_bytes leaves; end = end })
  pub are : AreLeaves leaves

-- its gate is open
abbrev pub is_open : List ℕ → Bool
is_open frame = get_or frame 0 0 == 1

-- behind an open gate no whole frame and next gate stand
abbrev pub IsBroken : List ℕ → Type 0
IsBroken bytes = length (drop 1 bytes) ≤ number (drop 1 bytes) + 4

-- these bytes are no leaf, or one whose version isn't above that of its file's last leaf among these
abbrev pub MayNotStand : List Leaf → List ℕ → Type 0
MayNotStand leaves frame = IsNoLeaf frame ⊎ ((leaf : Leaf) × IsFormed leaf × (leaf_bytes leaf ≡ frame) × (leaf.node.version ≤ last_version leaves leaf.node.pnode))

-- behind an open gate a whole frame and the next gate stand, but the frame is no leaf that may stand behind these
abbrev pub IsMisplaced : List Leaf → List ℕ → Type 0
IsMisplaced leaves bytes = (number (drop 1 bytes) + 4 < length (drop 1 bytes)) × MayNotStand leaves (take (number (drop 1 bytes)) (drop 5 bytes))

-- In front of this place stand whole frames, which are leaves. The gate there is open, and its frame is broken, or is no leaf that
-- may stand there.
pub record HasBadFrame (bytes : List ℕ) (at : ℕ) : Type 0 where
  pub leaves : List Leaf
  pub front : IsFront (take at bytes) (map leaf_bytes leaves)
  pub are : AreLeaves leaves
  pub within : at < length bytes
  pub gate : is_open (drop at bytes) ≡ true
  pub bad : IsBroken (drop at bytes) ⊎ IsMisplaced leaves (drop at bytes)

-- the area is longer than it may be, at that length; or this is its first bad frame. Of a disk that tells nothing some bytes are so.
abbrev pub IsBadArchive : Moment → ℕ → Type 0
IsBadArchive m at = (bytes : List ℕ) × (IsTrue m.tells → bytes ≡ m.seen.log)
    × (((longest < length bytes) × (at ≡ longest)) ⊎ ((1 < length bytes) × (length bytes ≤ longest) × HasBadFrame bytes at))

-- the area has these leaves, and ends there. Of a disk that tells nothing some bytes do.
abbrev pub IsArchiveOn : Moment → List Leaf → ℕ → Type 0
IsArchiveOn m leaves end = (bytes : List ℕ) × (IsTrue m.tells → bytes ≡ m.seen.log) × IsArchive bytes leaves end

-- the cause of a fault of reading the area: it is longer than it may be. Of a disk that tells nothing some bytes are so.
abbrev pub IsUnread : Moment → OldFault → Type 0
IsUnread m faults.DiskFault = Unit {0}
IsUnread m (faults.BadFrame at) = (bytes : List ℕ) × (IsTrue m.tells → bytes ≡ m.seen.log) × (longest < length bytes) × (at ≡ longest)
IsUnread m faults.NoMemory = Unit {0}
IsUnread m (faults.Broken opened now) = ⊥
IsUnread m faults.NoVersion = ⊥

-- the cause of a fault of opening
abbrev pub IsUnopened : Moment → OldFault → Type 0
IsUnopened m faults.DiskFault = Unit {0}
IsUnopened m (faults.BadFrame at) = IsBadArchive m at
IsUnopened m faults.NoMemory = Unit {0}
IsUnopened m (faults.Broken opened now) = ⊥
IsUnopened m faults.NoVersion = ⊥

-- each crash leaves an archive of these leaves, as long as no device call has failed since the opening and no count stands at its end
abbrev pub LeavesThem : Moment → ℕ → List Leaf → ℕ → Type 0
LeavesThem m opened leaves end = IsTrue m.tells → m.faults ≡ opened → (IsAtEnd m → ⊥) → (c : Image) → m.may_leave c → IsArchive c.log leaves end

-- an archive as contracts see it: its disk, the leaves there, where they end on the log area, the disk's count of faults at the opening,
-- and the leaves that are gathered to be written behind them
pub record Archive (A : Type 0) : Type 0 where
  pub disk : A
  pub leaves : List Leaf
  pub end : ℕ
  pub opened : ℕ
  pub gathered : List Leaf
