-- What the readers of leaves and archives tell, and what an open archive keeps.
use Rattle.std.specs.Prelude.{ℕ, ◌*◌, ◌<◌, ◌≤◌, ◌≡◌, ◌⊎◌, ◌↔◌, ◌^◌, List, [], ◌∷◌, ◌++◌, length, map, drop, IsTrue, IfSome, Vec}
use Rattle.std.specs.Int.{w16, w32, to_be_bytes}
use Rattle.std.specs.Ordering.{nat_cmp}
use Rattle.std.specs.BTreeMap.{BTreeMap, get}
use Rattle.std.specs.declared.alloc.Global.{Global}
use Rattle.pass_entry.specs.Limits.{block_size}
use Rattle.pass_plain.specs.Records.{range_len}
use Rattle.pass_outside.specs.Moments.{Moment, IsAtEnd}
use Rattle.pass_log.specs.declared.log.Log.{Log}
use Rattle.pass_log.specs.Frames.{IsFront}
use Rattle.pass_log.specs.Log.{IsSettled}
use Rattle.pass_leaf.specs.declared.stock.Stock.{Stock}
use Rattle.pass_leaf.specs.declared.tail.Tail.{Tail}
use Rattle.pass_leaf.specs.declared.walk.Found.{Found}
use Rattle.pass_leaf.specs.Leaves.{Leaf, IsFormed, leaf_bytes}
use Rattle.pass_leaf.specs.Contents.{last_version, last_content, AreLeaves}
use Rattle.pass_leaf.specs.Gatherings.{frames_size}
use Rattle.pass_leaf.specs.Archives.{IsArchive}

-- the bytes of a block with this number and these bytes
abbrev pub raw_bytes : ℕ → List ℕ → List ℕ
raw_bytes number bytes = to_be_bytes w32 number ++ (to_be_bytes w16 (length bytes) ++ bytes)

-- a block of that number and so many bytes may stand in a leaf of that size where blocks from that number on may
pub record IsFit (size from number len : ℕ) : Type 0 where
  pub ascends : from ≤ number
  pub within : number * block_size < size
  pub long : len ≡ range_len size number

-- where a table has a file, it has the content of its last leaf
abbrev pub AreContents : BTreeMap ℕ (Vec ℕ Global) → List Leaf → Type 0
AreContents contents leaves = (pnode : ℕ) → IfSome (get nat_cmp contents pnode) (λ v. v.items ≡ last_content leaves pnode)

-- a frame is the next leaf behind these
pub record IsNextLeaf (old : List Leaf) (frame : List ℕ) (new : List Leaf) : Type 0 where
  pub leaf : Leaf
  pub bytes : leaf_bytes leaf ≡ frame
  pub formed : IsFormed leaf
  pub above : last_version old leaf.node.pnode < leaf.node.version
  pub put : new ≡ old ++ leaf ∷ []

-- what was found is what the bytes hold
pub record IsFound (bytes : List ℕ) (found : Found) : Type 0 where
  pub archive : IsArchive bytes found.leaves found.end
  pub short : IsTrue found.short ↔ (length bytes ≤ 1)
  pub place : found.end ≤ 2 ^ 39

-- what was found is what the log area holds. Of a disk that tells nothing it is what some bytes hold.
abbrev pub IsFoundOn : Moment → Found → Type 0
IsFoundOn m found = (bytes : List ℕ) × (IsTrue m.tells → bytes ≡ m.seen.log) × IsFound bytes found

-- the end of an archive, as that of a log
abbrev pub log_of : Tail → Log
log_of tail = record { end = tail.end; opened = tail.opened }

-- the leaves of an archive end there on the disk, unless a device call has failed since the opening
pub record EndsThere (tail : Tail) (leaves : List Leaf) (m : Moment) : Type 0 where
  pub settled : IsSettled (log_of tail) m
  pub place : tail.end ≤ 2 ^ 39
  pub reads : IsTrue m.tells → m.faults ≡ tail.opened → (IsAtEnd m → ⊥) → IsArchive m.seen.log leaves tail.end

-- the first write of leaves has these bytes: their frames, with the gates between them open, and the closed gate behind the last one
pub record IsBatch (bytes : List ℕ) (leaves : List Leaf) : Type 0 where
  pub body : List ℕ
  pub is : bytes ≡ body ++ 0 ∷ []
  pub passes : IsFront (1 ∷ body) (map leaf_bytes leaves)
  pub size : length bytes ≡ frames_size leaves

-- nothing is gathered, or the first write of these leaves has the bytes
abbrev pub IsGathered : List ℕ → List Leaf → Type 0
IsGathered bytes leaves = ((bytes ≡ []) × (leaves ≡ [])) ⊎ IsBatch bytes leaves

-- the table tells of the leaves, of which the first ones are on the disk, and the frames are those of the others
pub record IsStock (stock : Stock) : Type 0 where
  pub are : AreLeaves stock.leaves
  pub contents_are : AreContents stock.contents stock.leaves
  pub few : stock.written ≤ length stock.leaves
  pub gathered_are : IsGathered stock.frames.items (drop stock.written stock.leaves)
