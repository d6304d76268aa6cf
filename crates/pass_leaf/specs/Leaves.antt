-- Leaves: what an archive has of a version of a file, the blocks in which it differs from the file's leaf before it (this project's own format).
use Rattle.std.specs.Prelude.{ℕ, ◌+◌, ◌*◌, ◌<◌, ◌≤◌, ◌^◌, ◌≡◌, List, [], ◌∷◌, ◌++◌, length}
use Rattle.std.specs.Int.{w16, w32, w64, to_be_bytes}
use Rattle.pass_entry.specs.declared.objects.Node.{Node}
use Rattle.pass_entry.specs.Limits.{block_size}
use Rattle.pass_plain.specs.Records.{range_len}
use Rattle.pass_leaf.specs.declared.leaf.LeafBlock.{LeafBlock}

-- a version of a file, its size, and the blocks in which it differs
pub record Leaf : Type 0 where
  pub node : Node
  pub size : ℕ
  pub blocks : List LeafBlock

-- the block may stand in a leaf of that size where blocks from this number on may: it begins within the size, and is as long as its part of it
pub record MayStand (size from : ℕ) (b : LeafBlock) : Type 0 where
  pub ascends : from ≤ b.number
  pub number : b.number < 2 ^ 32
  pub within : b.number * block_size < size
  pub long : length b.bytes ≡ range_len size b.number

-- each block may stand behind those before it
abbrev pub AreBlocks : ℕ → ℕ → List LeafBlock → Type 0
AreBlocks size from [] = Unit {0}
AreBlocks size from (b ∷ blocks) = MayStand size from b × AreBlocks size (b.number + 1) blocks

-- a leaf has this form: its numbers are within their fields, pnodes begin at 1, and its blocks ascend
pub record IsFormed (leaf : Leaf) : Type 0 where
  pub pnode : (1 ≤ leaf.node.pnode) × (leaf.node.pnode < 2 ^ 64)
  pub version : leaf.node.version < 2 ^ 64
  pub size : leaf.size < 2 ^ 64
  pub count : length leaf.blocks < 2 ^ 32
  pub blocks : AreBlocks leaf.size 0 leaf.blocks

-- the bytes of a block: its number, its length, and what it has
abbrev pub block_bytes : LeafBlock → List ℕ
block_bytes b = to_be_bytes w32 b.number ++ (to_be_bytes w16 (length b.bytes) ++ b.bytes)

abbrev pub blocks_bytes : List LeafBlock → List ℕ
blocks_bytes [] = []
blocks_bytes (b ∷ blocks) = block_bytes b ++ blocks_bytes blocks

-- in front of its blocks a leaf has its node, its size and how many blocks come
abbrev pub head_bytes : Node → ℕ → ℕ → List ℕ
head_bytes node size count = to_be_bytes w64 node.pnode ++ (to_be_bytes w64 node.version ++ (to_be_bytes w64 size ++ to_be_bytes w32 count))

-- the bytes of a leaf
abbrev pub leaf_bytes : Leaf → List ℕ
leaf_bytes leaf = head_bytes leaf.node leaf.size (length leaf.blocks) ++ blocks_bytes leaf.blocks

-- no leaf has these bytes
abbrev pub IsNoLeaf : List ℕ → Type 0
IsNoLeaf bytes = (leaf : Leaf) → IsFormed leaf → leaf_bytes leaf ≡ bytes → ⊥
