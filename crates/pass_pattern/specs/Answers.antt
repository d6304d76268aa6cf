-- What is answered of the paths of a shape.
use Rattle.std.specs.Prelude.{ℕ, ◌≡◌, List, Some}
use Rattle.pass_entry.specs.declared.objects.Node.{Node}
use Rattle.pass_entry.specs.declared.record.Record.{Record}
use Rattle.pass_waldo.specs.Orders.{node_cmp}
use Rattle.pass_waldo.specs.Lookups.{AreAll}
use Rattle.pass_query.specs.Questions.{answer_text}
use Rattle.pass_query.specs.declared.question.Form.{Form}
use Rattle.pass_pattern.specs.Patterns.{Shape, Joins}

-- the nodes are all to which a path of the shape leads from this one, each once, in ascending order
abbrev pub AreJoined : List Record → Shape → Node → List Node → Type 0
AreJoined list shape from nodes = AreAll node_cmp nodes (λ b. Joins list shape from b)

-- the text is that of these nodes
pub record IsMatchText (list : List Record) (shape : Shape) (from : Node) (form : Form) (text : List ℕ) : Type 0 where
  pub nodes : List Node
  pub joined : AreJoined list shape from nodes
  pub is : text ≡ answer_text form (Some nodes)
