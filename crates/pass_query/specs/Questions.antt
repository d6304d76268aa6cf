-- Which nodes answer a question to the graph, and how an answer is written.
use Rattle.std.specs.Prelude.{ℕ, ◌≡◌, List, [], ◌∷◌, ◌++◌, Option, Some, None, Result, Ok, Err, Contains, codes}
use Rattle.std.specs.declared.alloc.Global.{Global}
use Rattle.std.specs.declared.vec.Vec.{Vec}
use Rattle.pass_entry.specs.declared.objects.Node.{Node}
use Rattle.pass_entry.specs.declared.record.Record.{Record}
use Rattle.pass_entry.specs.declared.record.Record.TheVariants as log
use Rattle.pass_plain.specs.Graphs.{HasPath}
use Rattle.pass_graph.specs.ListRanks.{HasNode}
use Rattle.pass_waldo.specs.Lookups.{AreAll, current_in}
use Rattle.pass_waldo.specs.Orders.{node_cmp}
use Rattle.pass_query.specs.Answers.{IsLeastPath, IsFirstAbsent}
use Rattle.pass_query.specs.Texts.{text_of, json_of}
use Rattle.pass_query.specs.declared.fault.QueryFault.{QueryFault}
use Rattle.pass_query.specs.declared.question.Query.{Query}
use Rattle.pass_query.specs.declared.question.Query.TheVariants.{Ancestors, Descendants, Path, Named}
use Rattle.pass_query.specs.declared.question.Form.{Form}
use Rattle.pass_query.specs.declared.question.Form.TheVariants.{Lines, Json}

-- the nodes that answer the question, of which none is the answer where no path is there
abbrev pub IsAnswer : List Record → Query → Option (List Node) → Type 0
IsAnswer list (Ancestors node) (Some nodes) = AreAll node_cmp nodes (λ n. HasPath list node n)
IsAnswer list (Descendants node) (Some nodes) = AreAll node_cmp nodes (λ n. HasPath list n node)
IsAnswer list (Path from to) (Some nodes) = IsLeastPath list from to nodes
IsAnswer list (Path from to) None = ¬ (HasPath list from to)
IsAnswer list (Named name) (Some nodes) = AreAll node_cmp nodes (λ n. Contains list (log.Name n.pnode name) × (current_in list n.pnode ≡ Some n.version))
IsAnswer list _ None = ⊥

-- the node is the first given one that the graph hasn't
abbrev pub IsAbsent : List Record → Query → Node → Type 0
IsAbsent list (Ancestors node) n = (n ≡ node) × ¬ (HasNode list node)
IsAbsent list (Descendants node) n = (n ≡ node) × ¬ (HasNode list node)
IsAbsent list (Path from to) n = IsFirstAbsent list from to n
IsAbsent list (Named name) n = ⊥

-- the text of an answer
abbrev pub answer_text : Form → Option (List Node) → List ℕ
answer_text Lines (Some nodes) = text_of nodes
answer_text Json (Some nodes) = json_of nodes
answer_text Lines None = codes "none" ++ 10 ∷ []
answer_text Json None = codes "null" ++ 10 ∷ []

-- the text is that of the nodes that answer the question
abbrev pub IsAnswerText : List Record → Query → Form → List ℕ → Type 0
IsAnswerText list query form text = (nodes : Option (List Node)) × IsAnswer list query nodes × (text ≡ answer_text form nodes)

-- the nodes as an answer, or the same fault
abbrev pub IsFound : Result (Vec Node Global) QueryFault → Result (Option (Vec Node Global)) QueryFault → Type 0
IsFound (Ok nodes) found = found ≡ Ok (Some nodes)
IsFound (Err fault) found = found ≡ Err fault
