-- A view in the DOT language of Graphviz.
use Rattle.std.specs.Prelude.{ℕ, ◌==◌, ◌-◌, ◌&&◌, Bool, not, List, [], ◌∷◌, ◌++◌, length, codes, if◌then◌else◌}
use Rattle.std.specs.List.{filter, flat_map, list_any}
use Rattle.pass_entry.specs.Words.{kind_word, node_text}
use Rattle.pass_entry.specs.declared.objects.Kind.{Kind}
use Rattle.pass_entry.specs.declared.objects.Kind.TheVariants as kind
use Rattle.pass_plain.specs.Registries.{same_kind}
use Rattle.pass_view.specs.Labels.{attribute_text, title_of}
use Rattle.pass_view.specs.declared.picture.Link.{Link}
use Rattle.pass_view.specs.declared.picture.Shown.{Shown}
use Rattle.pass_view.specs.declared.picture.View.{View}

-- in a label like HTML four bytes stand for other things, and Graphviz takes away a backslash (92) with the byte behind it
abbrev pub label_byte : ℕ → List ℕ
label_byte byte =
    if byte == 34 then codes "&quot;"
    else if byte == 38 then codes "&amp;"
    else if byte == 60 then codes "&lt;"
    else if byte == 62 then codes "&gt;"
    else if byte == 92 then codes "\\\\"
    else byte ∷ []

-- The lines of a label. A space (32) ends a line that has 60 bytes or more; `left` bytes are still to come before a space may.
abbrev pub is_break : ℕ → ℕ → Bool
is_break left byte = (byte == 32) && (left == 0)

abbrev pub line_byte : ℕ → ℕ → List ℕ
line_byte left byte = if is_break left byte then codes "<BR/>" else label_byte byte

abbrev pub next_left : ℕ → ℕ → ℕ
next_left left byte = if is_break left byte then 60 else left - 1

abbrev pub lines_from : ℕ → List ℕ → List ℕ
lines_from left [] = []
lines_from left (byte ∷ text) = line_byte left byte ++ lines_from (next_left left byte) text

-- Graphviz's shape for a kind of object, with a colour; black text can be read on each, and they differ in grey
abbrev pub style : Kind → List ℕ
style kind.Process = codes "shape=box, fillcolor=\"#9ecbff\""
style kind.File = codes "shape=note, fillcolor=\"#fff2a8\""
style kind.Pipe = codes "shape=cds, fillcolor=\"#b7e4c7\""
style kind.App = codes "shape=component, fillcolor=\"#f5d0e0\""

-- Nodes and edges

-- a text, where there is one, has lines of its own
abbrev pub title_lines : List ℕ → List ℕ
title_lines text = if length text == 0 then [] else lines_from 60 text ++ codes "<BR/>"

-- the attributes of an app object
abbrev pub attributes_of : Shown → List (List ℕ × List ℕ)
attributes_of s = if same_kind s.kind kind.App then s.tags.items else []

abbrev pub attribute_lines : List ℕ × List ℕ → List ℕ
attribute_lines tag = title_lines (attribute_text tag)

-- the title, and each attribute
abbrev pub label_lines : Shown → List ℕ
label_lines s = title_lines (title_of s) ++ flat_map attribute_lines (attributes_of s)

-- the line of a node up to its label's lines, and behind them: the node itself, in small letters
abbrev pub line_head : Shown → List ℕ
line_head s = codes "  \"" ++ (node_text s.node ++ (codes "\" [" ++ (style s.kind ++ codes ", label=<")))

abbrev pub line_end : Shown → List ℕ
line_end s = codes "<FONT POINT-SIZE=\"9\">" ++ (node_text s.node ++ codes "</FONT>>];\n")

abbrev pub node_line : Shown → List ℕ
node_line s = line_head s ++ label_lines s ++ line_end s

abbrev pub line_if : Bool → Shown → List ℕ
line_if b s = if b then node_line s else []

abbrev pub edge_line : Link → List ℕ
edge_line e = codes "  \"" ++ (node_text e.target ++ (codes "\" -> \"" ++ (node_text e.source ++ codes "\";\n")))

-- Boxes

abbrev pub cluster_head : List ℕ → List ℕ
cluster_head title = codes "  subgraph cluster_" ++ (title ++ (codes " {\n  label=\"" ++ (title ++ codes "\";\n")))

-- these lines in a box with this title, where there are any
abbrev pub cluster : List ℕ → List ℕ → List ℕ
cluster title lines =
    if length lines == 0 then []
    else cluster_head title ++ lines ++ codes "  }\n"

abbrev pub has_kind : Kind → List Shown → Bool
has_kind k nodes = list_any (λ s. same_kind s.kind k) nodes

abbrev pub kind_line : Kind → List ℕ
kind_line k = codes "  \"" ++ (kind_word k ++ (codes "\" [" ++ (style k ++ codes "];\n")))

-- a node that shows what a kind looks like, where there is one of the kind
abbrev pub legend_line : List Shown → Kind → List ℕ
legend_line nodes k = if has_kind k nodes then kind_line k else []

abbrev pub legend_lines : List Shown → List ℕ
legend_lines nodes = legend_line nodes kind.Process ++ legend_line nodes kind.File ++ legend_line nodes kind.Pipe ++ legend_line nodes kind.App

abbrev pub legend : List Shown → List ℕ
legend nodes = cluster (codes "legend") (legend_lines nodes)

abbrev pub system_lines : List Shown → List ℕ
system_lines nodes = flat_map (λ s. line_if s.is_system s) nodes

abbrev pub system : List Shown → List ℕ
system nodes = cluster (codes "system") (system_lines nodes)

-- Pictures

abbrev pub other_lines : List Shown → List ℕ
other_lines nodes = flat_map (λ s. line_if (not s.is_system) s) nodes

-- the legend, the files of a system in a box, all other nodes, and the edges
abbrev pub picture : List Shown → List Link → List ℕ
picture nodes edges =
    codes "digraph provenance {\n  node [style=filled];\n" ++ legend nodes ++ system nodes ++ other_lines nodes ++ flat_map edge_line edges ++ codes "}\n"

abbrev pub dot_text : View → List ℕ
dot_text view = picture view.nodes.items view.edges.items

-- without the files of a system, and the edges that have one at an end
abbrev pub plain_text : View → List ℕ
plain_text view = picture (filter (λ s. not s.is_system) view.nodes.items) (filter (λ e. not e.is_system) view.edges.items)
