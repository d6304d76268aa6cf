-- The contents of which leaves tell.
use Rattle.std.specs.Prelude.{ℕ, ◌+◌, ◌*◌, ◌==◌, ◌<◌, Bool, ◌&&◌, List, [], ◌∷◌, ◌++◌, length, take, drop, fold, Option, Some, None, if◌then◌else◌}
use Rattle.pass_entry.specs.declared.objects.Node.{Node}
use Rattle.pass_entry.specs.Limits.{block_size}
use Rattle.pass_plain.specs.Files.{resized}
use Rattle.pass_leaf.specs.declared.leaf.LeafBlock.{LeafBlock}
use Rattle.pass_leaf.specs.Leaves.{Leaf, IsFormed}

-- with the bytes of a block put over a content
abbrev pub with_block : List ℕ → LeafBlock → List ℕ
with_block content b = take (b.number * block_size) content ++ b.bytes ++ drop (b.number * block_size + length b.bytes) content

-- what a leaf makes of the content of the file's leaf before it
abbrev pub laid : List ℕ → Leaf → List ℕ
laid old leaf = fold with_block (resized old leaf.size) leaf.blocks

-- the content of a file's last leaf; no bytes where it has no leaf
abbrev pub last_content : List Leaf → ℕ → List ℕ
last_content leaves pnode = fold (λ old leaf. if leaf.node.pnode == pnode then laid old leaf else old) [] leaves

-- the version of a file's last leaf; 0 where it has no leaf
abbrev pub last_version : List Leaf → ℕ → ℕ
last_version leaves pnode = fold (λ old leaf. if leaf.node.pnode == pnode then leaf.node.version else old) 0 leaves

abbrev pub is_of : Node → Leaf → Bool
is_of node leaf = leaf.node.pnode == node.pnode && leaf.node.version == node.version

-- the content of a node's leaf among leaves that stand behind others
abbrev pub content_after : List Leaf → List Leaf → Node → Option (List ℕ)
content_after past [] node = None
content_after past (leaf ∷ leaves) node = if is_of node leaf then Some (laid (last_content past node.pnode) leaf) else content_after (past ++ leaf ∷ []) leaves node

-- the content of a node's leaf, where it has one
abbrev pub content_of : List Leaf → Node → Option (List ℕ)
content_of leaves node = content_after [] leaves node

-- each leaf has the form, and a version above that of its file's leaf before it
abbrev pub AreLeavesAfter : List Leaf → List Leaf → Type 0
AreLeavesAfter past [] = Unit {0}
AreLeavesAfter past (leaf ∷ leaves) = IsFormed leaf × (last_version past leaf.node.pnode < leaf.node.version) × AreLeavesAfter (past ++ leaf ∷ []) leaves

abbrev pub AreLeaves : List Leaf → Type 0
AreLeaves leaves = AreLeavesAfter [] leaves
