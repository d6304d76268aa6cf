-- The rows of an index are those of the records that it has taken.
use Rattle.std.specs.Prelude.{ℕ, ◌≡◌, ◌+◌, ◌≤◌, ◌⊎◌, List, Contains}
use Rattle.std.specs.Ordering.{nat_cmp}
use Rattle.pass_entry.specs.declared.objects.Node.{Node}
use Rattle.pass_entry.specs.declared.record.Record.{Record}
use Rattle.pass_entry.specs.declared.record.Record.TheVariants as log
use Rattle.pass_plain.specs.Graphs.{IsEdge}
use Rattle.pass_waldo.specs.Orders.{node_cmp}
use Rattle.pass_waldo.specs.Edges.{parents_of, children_of}
use Rattle.pass_waldo.specs.Texts.{files_named, values_of}
use Rattle.pass_waldo.specs.Lookups.{AreAll, values_in}
use Rattle.pass_waldo.specs.declared.edges.Edges.{Edges}
use Rattle.pass_waldo.specs.declared.texts.Texts.{Texts}
use Rattle.pass_waldo.specs.declared.index.Index.TheInside.{Inside}

-- the rows of edges are those of the records
pub record AreEdges (list : List Record) (edges : Edges) : Type 0 where
  pub parents : (n : Node) → AreAll node_cmp (parents_of edges n) (λ s. IsEdge list n s)
  pub children : (n : Node) → AreAll node_cmp (children_of edges n) (λ t. IsEdge list t n)

-- and so are those of texts
pub record AreTexts (list : List Record) (texts : Texts) : Type 0 where
  pub files : (name : List ℕ) → AreAll nat_cmp (files_named texts name) (λ p. Contains list (log.Name p name))
  pub values : (attr : List ℕ) → values_of texts attr ≡ values_in list attr

pub record IsIndex (i : Inside) : Type 0 where
  pub edges : AreEdges i.taken i.edges
  pub texts : AreTexts i.taken i.texts

-- the record makes this edge
abbrev pub MakesEdge : Record → Node → Node → Type 0
MakesEdge r target source = (r ≡ log.Input target source) ⊎ ((r ≡ log.Version target) × (source.pnode ≡ target.pnode) × (source.version + 1 ≡ target.version))

-- the record makes no edge and names nothing
abbrev pub IsQuiet : Record → Type 0
IsQuiet (log.Name pnode name) = ⊥
IsQuiet (log.Attr node attr value) = ⊥
IsQuiet (log.Input target source) = ⊥
IsQuiet (log.Version node) = ⊥
IsQuiet _ = Unit {0}

-- the record makes no version 0
abbrev pub IsNumbered : Record → Type 0
IsNumbered (log.Version node) = 1 ≤ node.version
IsNumbered _ = Unit {0}
