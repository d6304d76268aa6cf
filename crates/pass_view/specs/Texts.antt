-- The text of a view. This project's own rule.
use Rattle.std.specs.Prelude.{ℕ, ◌≡◌, List, Option, None}
use Rattle.std.specs.List.{All}
use Rattle.pass_entry.specs.declared.objects.Node.{Node}
use Rattle.pass_entry.specs.declared.record.Record.{Record}
use Rattle.pass_waldo.specs.Lookups.{AreAll}
use Rattle.pass_waldo.specs.Orders.{node_cmp}
use Rattle.pass_view.specs.Csvs.{table_text}
use Rattle.pass_view.specs.Dots.{dot_text, plain_text}
use Rattle.pass_view.specs.Facts.{IsRelated, IsTold}
use Rattle.pass_view.specs.Provs.{prov_text}
use Rattle.pass_view.specs.Views.{IsShown, IsShownEdge, edge_cmp, edges_of, nodes_of}
use Rattle.pass_view.specs.declared.csvs.Table.{Table}
use Rattle.pass_view.specs.declared.picture.View.{View}
use Rattle.pass_view.specs.declared.texts.Form.{Form}
use Rattle.pass_view.specs.declared.texts.Form.TheVariants.{Dot, Plain, Prov}

-- The view has each node and each edge that is to be shown exactly once, in ascending order, with what the records say of them.
pub record IsView (list : List Record) (node : Option Node) (view : View) : Type 0 where
  pub nodes : AreAll node_cmp (nodes_of view.nodes.items) (IsShown list node)
  pub edges : AreAll edge_cmp (edges_of view.edges.items) (IsShownEdge list node)
  pub told : All (IsTold list) view.nodes.items
  pub related : All (IsRelated list) view.edges.items

abbrev pub text_in : Form → View → List ℕ
text_in Dot view = dot_text view
text_in Plain view = plain_text view
text_in Prov view = prov_text view

-- the text is that of what is to be shown
pub record IsViewText (list : List Record) (node : Option Node) (form : Form) (text : List ℕ) : Type 0 where
  pub view : View
  pub shows : IsView list node view
  pub is : text ≡ text_in form view

-- the text is that table of the whole graph, for a store of this name
pub record IsTableText (list : List Record) (table : Table) (store : List ℕ) (text : List ℕ) : Type 0 where
  pub view : View
  pub shows : IsView list None view
  pub is : text ≡ table_text table store view
