-- Which nodes answer a question that tells names. This project's own rule.
use Rattle.std.specs.Prelude.{ℕ, ◌≡◌, ◌&&◌, Bool, true, false, not, List, Option, Some, None}
use Rattle.pass_entry.specs.declared.objects.Node.{Node}
use Rattle.pass_entry.specs.declared.record.Record.{Record}
use Rattle.pass_plain.specs.Graphs.{HasPath}
use Rattle.pass_plain.specs.WellLogged.{is_file_of}
use Rattle.pass_graph.specs.ListRanks.{HasNode}
use Rattle.pass_waldo.specs.Lookups.{AreAll}
use Rattle.pass_waldo.specs.Orders.{node_cmp}
use Rattle.pass_query.specs.Answers.{IsLeastPath, IsFirstAbsent}
use Rattle.pass_query.specs.declared.question.Form.{Form}
use Rattle.pass_files.specs.Data.{HasDataPath}
use Rattle.pass_files.specs.Spelling.{node_meant}
use Rattle.pass_files.specs.Texts.{inquiry_text}
use Rattle.pass_view.specs.Facts.{is_system}
use Rattle.pass_files.specs.declared.inquiry.Choice.{Choice}
use Rattle.pass_files.specs.declared.inquiry.Inquiry.{Inquiry}
use Rattle.pass_files.specs.declared.inquiry.Inquiry.TheVariants as named
use Rattle.pass_files.specs.declared.inquiry.Wanted.{Wanted}
use Rattle.pass_files.specs.declared.inquiry.Wanted.TheVariants.{Ancestors, Descendants, Path, Inputs, Outputs}

-- edges lead from the one node to the other; where only data count, edges of data
abbrev pub Joins : Bool → List Record → Node → Node → Type 0
Joins false list a b = HasPath list a b
Joins true list a b = HasDataPath list a b

-- a file; where the system's files are left out, none of these
abbrev pub is_shown : List Record → Choice → ℕ → Bool
is_shown list choice object = is_file_of list object && not (choice.plain && is_system list object)

-- a version of a file from which the node came
abbrev pub IsInput : List Record → Choice → Node → Node → Type 0
IsInput list choice node n = (is_shown list choice n.pnode ≡ true) × Joins choice.flows list node n

-- a version of a file that came from the node
abbrev pub IsOutput : List Record → Choice → Node → Node → Type 0
IsOutput list choice node n = (is_shown list choice n.pnode ≡ true) × Joins choice.flows list n node

-- the question once its names are taken for nodes
abbrev pub meant : List Record → Inquiry → Wanted
meant list (named.Ancestors node) = Ancestors (node_meant list node)
meant list (named.Descendants node) = Descendants (node_meant list node)
meant list (named.Path from to) = Path (node_meant list from) (node_meant list to)
meant list (named.Inputs node choice) = Inputs (node_meant list node) choice
meant list (named.Outputs node choice) = Outputs (node_meant list node) choice

-- the nodes that answer the question, of which none is the answer where no path is there
abbrev pub IsMet : List Record → Wanted → Option (List Node) → Type 0
IsMet list (Ancestors node) (Some nodes) = AreAll node_cmp nodes (λ n. HasPath list node n)
IsMet list (Descendants node) (Some nodes) = AreAll node_cmp nodes (λ n. HasPath list n node)
IsMet list (Path from to) (Some nodes) = IsLeastPath list from to nodes
IsMet list (Path from to) None = ¬ (HasPath list from to)
IsMet list (Inputs node choice) (Some nodes) = AreAll node_cmp nodes (IsInput list choice node)
IsMet list (Outputs node choice) (Some nodes) = AreAll node_cmp nodes (IsOutput list choice node)
IsMet list _ None = ⊥

-- the node is the first given one that the graph hasn't
abbrev pub IsUnmet : List Record → Wanted → Node → Type 0
IsUnmet list (Ancestors node) n = (n ≡ node) × ¬ (HasNode list node)
IsUnmet list (Descendants node) n = (n ≡ node) × ¬ (HasNode list node)
IsUnmet list (Path from to) n = IsFirstAbsent list from to n
IsUnmet list (Inputs node choice) n = (n ≡ node) × ¬ (HasNode list node)
IsUnmet list (Outputs node choice) n = (n ≡ node) × ¬ (HasNode list node)

-- the text is that of the nodes that answer the question
abbrev pub IsInquiryText : List Record → Inquiry → Form → List ℕ → Type 0
IsInquiryText list inquiry form text = (nodes : Option (List Node)) × IsMet list (meant list inquiry) nodes × (text ≡ inquiry_text list form nodes)
