-- What is told of the versions of a file. This project's own rule.
use Rattle.std.specs.Prelude.{ℕ, ◌==◌, List, [], ◌∷◌, ◌++◌, length, flat_map, codes, if◌then◌else◌}
use Rattle.std.specs.Option.{option_map_or}
use Rattle.std.specs.Fmt.{decimal}
use Rattle.md5.specs.Md5.{md5}
use Rattle.hex.specs.Hex.{encode_lower}
use Rattle.pass_entry.specs.Words.{node_text}
use Rattle.pass_entry.specs.declared.objects.Node.{Node}
use Rattle.pass_leaf.specs.Leaves.{Leaf}
use Rattle.pass_leaf.specs.Contents.{content_of}

-- the line of a version: its node, the size of its content, and the MD5 (RFC 1321) of that
abbrev pub version_line : Node → List ℕ → List ℕ
version_line node content = node_text node ++ codes " " ++ decimal (length content) ++ codes " " ++ encode_lower (md5 content) ++ 10 ∷ []

-- the line of a leaf of the file, with its content
abbrev pub leaf_line : List Leaf → ℕ → Leaf → List ℕ
leaf_line leaves file leaf = if leaf.node.pnode == file then option_map_or (version_line leaf.node) (content_of leaves leaf.node) [] else []

-- a line for each version of the file that was kept, in order
abbrev pub version_lines : List Leaf → ℕ → List ℕ
version_lines leaves file = flat_map (leaf_line leaves file) leaves
