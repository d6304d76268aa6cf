-- A graph as two tables of CSV, one of its nodes and one of its edges. Which bytes a row has is RFC 4180, in the words of the crate
-- `csv`; which columns there are is this project's own rule.
use Rattle.std.specs.Prelude.{ℕ, ◌≡◌, Bool, true, false, List, [], ◌∷◌, ◌++◌, map, Option, Some, None, codes, decimal, unwrap_or, if◌then◌else◌}
use Rattle.std.specs.List.{flat_map}
use Rattle.std.specs.declared.alloc.Global.{Global}
use Rattle.std.specs.declared.vec.Vec.{Vec}
use Rattle.csv.specs.Records as record_of
use Rattle.csv.specs.Records.{fields_of, partial_of}
use Rattle.csv.specs.Writing.{default_writer, fields_written, has_written, row_text, text_written, with_terminator, writer_setup}
use Rattle.csv.specs.declared.parser.Terminator.TheVariants as term
use Rattle.csv.specs.declared.writer.Writer.{Writer}
use Rattle.csv.specs.declared.writer.WriterBuilder.{WriterBuilder}
use Rattle.json.specs.Print.{print}
use Rattle.json.specs.Tree.{json_tokens}
use Rattle.pass_entry.specs.Words.{kind_word, node_text}
use Rattle.pass_entry.specs.declared.objects.Node.{Node}
use Rattle.pass_view.specs.Labels.{arguments_of, is_activity}
use Rattle.pass_view.specs.Provs.{ran, relation_word, tags_json}
use Rattle.pass_view.specs.declared.csvs.Table.{Table}
use Rattle.pass_view.specs.declared.csvs.Table.TheVariants.{Nodes, Edges}
use Rattle.pass_view.specs.declared.picture.Link.{Link}
use Rattle.pass_view.specs.declared.picture.Shown.{Shown}
use Rattle.pass_view.specs.declared.picture.View.{View}

-- Rows

abbrev pub Row : Type 0
Row = List (List ℕ)

-- commas, quotes around what needs them, and CRLF at the end
abbrev pub layout : WriterBuilder
layout = with_terminator default_writer term.CRLF

unfoldable pub row_bytes : Row → List ℕ
row_bytes row = row_text layout row

abbrev pub rows_bytes : List Row → List ℕ
rows_bytes rows = flat_map row_bytes rows

-- Nodes

-- A node among those of many stores: the name of its store, a colon, and the node, which has none.
abbrev pub node_key : List ℕ → Node → List ℕ
node_key store node = store ++ (codes ":" ++ node_text node)

-- a text that may be missing is then empty
abbrev pub given_or_empty : Option (List ℕ) → List ℕ
given_or_empty text = unwrap_or text []

-- the last name of what has none any more
abbrev pub lost_name : Option (List ℕ) → Option (List ℕ) → List ℕ
lost_name (Some name) was = []
lost_name None was = given_or_empty was

-- the arguments of what a process's version ran
abbrev pub ran_with : Shown → Option (List ℕ)
ran_with s = if is_activity s then arguments_of s else None

abbrev pub truth_word : Bool → List ℕ
truth_word true = codes "true"
truth_word false = codes "false"

-- the attributes as in PROV-JSON
abbrev pub tags_text : List (List ℕ × List ℕ) → List ℕ
tags_text tags = print (json_tokens (tags_json tags))

abbrev pub node_columns : Row
node_columns =
    codes "key"
    ∷ codes "store"
    ∷ codes "pnode"
    ∷ codes "version"
    ∷ codes "kind"
    ∷ codes "name"
    ∷ codes "was"
    ∷ codes "program"
    ∷ codes "arguments"
    ∷ codes "system"
    ∷ codes "attributes"
    ∷ []

abbrev pub node_row : List ℕ → Shown → Row
node_row store s =
    node_key store s.node
    ∷ store
    ∷ decimal s.node.pnode
    ∷ decimal s.node.version
    ∷ kind_word s.kind
    ∷ given_or_empty s.name
    ∷ lost_name s.name s.was
    ∷ given_or_empty (ran s)
    ∷ given_or_empty (ran_with s)
    ∷ truth_word s.is_system
    ∷ tags_text s.tags.items
    ∷ []

-- Edges

abbrev pub edge_columns : Row
edge_columns = codes "target" ∷ codes "source" ∷ codes "relation" ∷ []

-- what the target is to the source, in PROV's words
abbrev pub edge_row : List ℕ → Link → Row
edge_row store e = node_key store e.target ∷ node_key store e.source ∷ relation_word e.relation ∷ []

-- Tables

-- the names of the columns, and a row for each node or each edge of the view
abbrev pub table_rows : Table → List ℕ → View → List Row
table_rows Nodes store view = node_columns ∷ map (node_row store) view.nodes.items
table_rows Edges store view = edge_columns ∷ map (edge_row store) view.edges.items

abbrev pub table_text : Table → List ℕ → View → List ℕ
table_text table store view = rows_bytes (table_rows table store view)

-- Writing

-- the writer stands between two rows, and this is what it has written
pub record HasText (out : Writer (Vec ℕ Global)) (text : List ℕ) : Type 0 where
  pub setup : writer_setup out ≡ layout
  pub fields : fields_written out ≡ 0
  pub wrote : has_written out ≡ false
  pub text_is : text_written (λ v. Some v.items) out ≡ Some text

-- these bytes were written behind what stood there
abbrev pub Writes : Writer (Vec ℕ Global) → Writer (Vec ℕ Global) → List ℕ → Type 0
Writes old new more = (text : List ℕ) → HasText old text → HasText new (text ++ more)

-- these fields were put behind those of the row
abbrev pub Pushes : record_of.Row → record_of.Row → Row → Type 0
Pushes old new fields = partial_of old ≡ [] → (fields_of new ≡ fields_of old ++ fields) × (partial_of new ≡ [])
