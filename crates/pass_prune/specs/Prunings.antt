-- What a fresh archive gets of another one. This project's own rule.
use Rattle.std.specs.Prelude.{Bool, List, [], ◌∷◌, ◌++◌, filter}
use Rattle.pass_entry.specs.declared.objects.Node.{Node}
use Rattle.pass_leaf.specs.Leaves.{Leaf}
use Rattle.pass_leaf.specs.Contents.{laid, last_content}
use Rattle.pass_leaf.specs.Keeping.{FileVersion, kept_all}

-- the version of a leaf that stands behind others, with its content
abbrev pub version_behind : List Leaf → Leaf → FileVersion
version_behind past leaf = record { node = leaf.node; bytes = laid (last_content past leaf.node.pnode) leaf }

-- those of leaves that stand behind others
abbrev pub contents_after : List Leaf → List Leaf → List FileVersion
contents_after past [] = []
contents_after past (leaf ∷ leaves) = version_behind past leaf ∷ contents_after (past ++ leaf ∷ []) leaves

-- those that a test chooses, in the order of the leaves
abbrev pub chosen_of : (Node → Bool) → List Leaf → List FileVersion
chosen_of choice leaves = filter (λ v. choice v.node) (contents_after [] leaves)

-- the leaves of an archive that had none and keeps these
abbrev pub pruned : (Node → Bool) → List Leaf → List Leaf
pruned choice leaves = kept_all [] (chosen_of choice leaves)
