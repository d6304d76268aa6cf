-- What the queries answer, and what they look at.
use Rattle.std.specs.Prelude.{◌≡◌, ◌<◌, ◌⊎◌, false, List, [], ◌∷◌, length, Contains}
use Rattle.std.specs.Cmp.Lexicographic.{slice_cmp}
use Rattle.std.specs.Ordering.{is_gt}
use Rattle.pass_entry.specs.declared.objects.Node.{Node}
use Rattle.pass_entry.specs.declared.record.Record.{Record}
use Rattle.pass_plain.specs.Graphs.{IsEdge, HasPath}
use Rattle.pass_graph.specs.ListRanks.{HasNode}
use Rattle.pass_waldo.specs.Orders.{node_cmp}
use Rattle.pass_query.specs.Searches.{HasOnce}

-- among these edges are all that leave the node and its ancestors
abbrev pub HasAllLeaving : List Record → Node → List (Node × Node) → Type 0
HasAllLeaving list node edges = (a b : Node) → IsEdge list a b → (a ≡ node) ⊎ HasPath list node a → Contains edges (a, b)

-- among these edges are all that enter the node and its descendants
abbrev pub HasAllEntering : List Record → Node → List (Node × Node) → Type 0
HasAllEntering list node edges = (a b : Node) → IsEdge list a b → (b ≡ node) ⊎ HasPath list b node → Contains edges (a, b)

-- each of these edges leaves the node or an ancestor of it, and is there once
abbrev pub HasOnlyLeaving : List Record → Node → List (Node × Node) → Type 0
HasOnlyLeaving list node edges = HasOnce edges × ((a b : Node) → Contains edges (a, b) → IsEdge list a b × ((a ≡ node) ⊎ HasPath list node a))

-- each of these edges enters the node or a descendant of it, and is there once
abbrev pub HasOnlyEntering : List Record → Node → List (Node × Node) → Type 0
HasOnlyEntering list node edges = HasOnce edges × ((a b : Node) → Contains edges (a, b) → IsEdge list a b × ((b ≡ node) ⊎ HasPath list b node))

-- edges lead through these nodes from the one to the other
pub data IsPath (list : List Record) : Node → Node → List Node → Type 0 where
  edge : {a b : Node} → IsEdge list a b → IsPath list a b (a ∷ b ∷ [])
  step : {a b c : Node} {nodes : List Node} → IsEdge list a b → IsPath list b c nodes → IsPath list a c (a ∷ nodes)

-- the one has fewer nodes, or as many and comes no later, compared node by node
abbrev pub IsUpTo : List Node → List Node → Type 0
IsUpTo one other = (length one < length other) ⊎ ((length one ≡ length other) × (is_gt (slice_cmp node_cmp one other) ≡ false))

pub record IsLeastPath (list : List Record) (from to : Node) (nodes : List Node) : Type 0 where
  pub path : IsPath list from to nodes
  pub least : (other : List Node) → IsPath list from to other → IsUpTo nodes other

-- the first of the two that the graph hasn't
abbrev pub IsFirstAbsent : List Record → Node → Node → Node → Type 0
IsFirstAbsent list from to node = ((node ≡ from) × ¬ (HasNode list from)) ⊎ (HasNode list from × (node ≡ to) × ¬ (HasNode list to))
