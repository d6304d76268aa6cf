-- What the graph of a log answers to a question. This project's own rule.
use Rattle.std.specs.Prelude.{ℕ, ◌≡◌, List, Some, option_map}
use Rattle.std.specs.List.{All}
use Rattle.pass_entry.specs.declared.objects.Node.{Node}
use Rattle.pass_entry.specs.declared.record.Record.{Record}
use Rattle.pass_files.specs.Inquiries.{IsInquiryText, IsUnmet, meant}
use Rattle.pass_files.specs.Spelling.{node_meant}
use Rattle.pass_graph.specs.ListRanks.{HasNode}
use Rattle.pass_plain.specs.Graphs.{IsEdge}
use Rattle.pass_query.specs.Questions.{IsAbsent, IsAnswerText}
use Rattle.pass_recipe.specs.Orders.{IsLeast, IsOrder, nodes_of}
use Rattle.pass_recipe.specs.Programs.{HasProgram}
use Rattle.pass_recipe.specs.Texts.{recipe_text}
use Rattle.pass_recipe.specs.declared.entries.Made.{Made}
use Rattle.pass_view.specs.Texts.{IsTableText, IsViewText}
use Rattle.pass_waldo.specs.Lookups.{AreAll}
use Rattle.pass_waldo.specs.Orders.{node_cmp}
use Rattle.pass_ask.specs.declared.words.GraphQuestion.{GraphQuestion}
use Rattle.pass_ask.specs.declared.words.GraphQuestion.TheVariants.{Lineage, Recipe, View, Csv, Told}

-- the recipe of a node: it and all its ancestors, each after what it came from, in the least of these orders; each with its sources
-- and its program
pub record IsRecipe (list : List Record) (node : Node) (entries : List Made) : Type 0 where
  pub order : IsOrder list node (nodes_of entries)
  pub least : IsLeast list node (nodes_of entries)
  pub sources : All (λ m. AreAll node_cmp m.sources.items (λ s. IsEdge list m.node s)) entries
  pub programs : All (HasProgram list) entries

-- the text that answers the question
abbrev pub IsGraphText : List Record → GraphQuestion → List ℕ → Type 0
IsGraphText list (Lineage query form) text = IsAnswerText list query form text
IsGraphText list (Recipe node) text = (entries : List Made) × IsRecipe list node entries × (text ≡ recipe_text entries)
IsGraphText list (View form node) text = IsViewText list (option_map (node_meant list) node) form text
IsGraphText list (Csv table store) text = IsTableText list table store text
IsGraphText list (Told inquiry form) text = IsInquiryText list inquiry form text

-- the node is the first given one that the graph hasn't
abbrev pub IsMissing : List Record → GraphQuestion → Node → Type 0
IsMissing list (Lineage query form) n = IsAbsent list query n
IsMissing list (Recipe node) n = (n ≡ node) × ¬ (HasNode list node)
IsMissing list (View form node) n = (option_map (node_meant list) node ≡ Some n) × ¬ (HasNode list n)
IsMissing list (Csv table store) n = ⊥
IsMissing list (Told inquiry form) n = IsUnmet list (meant list inquiry) n
