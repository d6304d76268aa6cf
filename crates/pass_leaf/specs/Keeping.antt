-- How leaves are made of contents, and kept (this project's own rule).
use Rattle.std.specs.Prelude.{ℕ, ◌+◌, ◌*◌, ◌/◌, ◌==◌, Bool, not, ◌&&◌, List, [], ◌∷◌, ◌++◌, length, take, drop, map, filter, fold, nat_lt, if◌then◌else◌}
use Rattle.std.specs.List.{list_all, range_with_len}
use Rattle.pass_entry.specs.declared.objects.Node.{Node}
use Rattle.pass_entry.specs.Limits.{block_size}
use Rattle.pass_leaf.specs.declared.leaf.LeafBlock.{LeafBlock}
use Rattle.pass_leaf.specs.Leaves.{Leaf}
use Rattle.pass_leaf.specs.Contents.{last_content, last_version}

-- the bytes of a content that lie in a block
abbrev pub part : List ℕ → ℕ → List ℕ
part content block = take block_size (drop (block * block_size) content)

-- byte for byte the same; bytes past the shorter one are zero
abbrev pub is_alike : List ℕ → List ℕ → Bool
is_alike [] ys = list_all (λ y. y == 0) ys
is_alike (x ∷ xs) [] = list_all (λ x. x == 0) (x ∷ xs)
is_alike (x ∷ xs) (y ∷ ys) = x == y && is_alike xs ys

abbrev pub differs : List ℕ → List ℕ → ℕ → Bool
differs old new block = not (is_alike (part old block) (part new block))

-- how many blocks a content of that size has
abbrev pub block_total : ℕ → ℕ
block_total size = (size + 4095) / 4096

abbrev pub block_of : List ℕ → ℕ → LeafBlock
block_of content block = record { number = block; bytes = part content block }

-- the blocks of a content in which it differs from another one, ascending
abbrev pub changed : List ℕ → List ℕ → List LeafBlock
changed old new = map (block_of new) (filter (differs old new) (range_with_len 0 (block_total (length new))))

-- the leaf of a version with this content, behind one with that content
abbrev pub leaf_from : List ℕ → Node → List ℕ → Leaf
leaf_from old node new = record { node = node; size = length new; blocks = changed old new }

-- a version of a file, with its content
pub record FileVersion : Type 0 where
  pub node : Node
  pub bytes : List ℕ

-- one version more is kept where it is above its file's last leaf
abbrev pub is_above : List Leaf → Node → Bool
is_above leaves node = nat_lt (last_version leaves node.pnode) node.version

abbrev pub kept_with : List Leaf → FileVersion → List Leaf
kept_with leaves v = if is_above leaves v.node then leaves ++ leaf_from (last_content leaves v.node.pnode) v.node v.bytes ∷ [] else leaves

abbrev pub kept_all : List Leaf → List FileVersion → List Leaf
kept_all leaves versions = fold kept_with leaves versions
