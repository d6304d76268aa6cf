-- The order in which a node can be made again, after all that it came from.
use Rattle.std.specs.Prelude.{◌≡◌, ◌⊎◌, false, List, [], ◌∷◌, ◌++◌, map, Contains}
use Rattle.std.specs.List.{list_any, IsDistinct}
use Rattle.std.specs.Cmp.Lexicographic.{slice_cmp}
use Rattle.std.specs.Ordering.{is_gt}
use Rattle.pass_entry.specs.declared.objects.Node.{Node}
use Rattle.pass_entry.specs.declared.record.Record.{Record}
use Rattle.pass_plain.specs.Versions.{same_node}
use Rattle.pass_plain.specs.Graphs.{IsEdge, HasPath}
use Rattle.pass_waldo.specs.Orders.{node_cmp}
use Rattle.pass_query.specs.Searches.{HasOnce}
use Rattle.pass_recipe.specs.declared.entries.Made.{Made}

-- the node itself or an ancestor of it
abbrev pub IsListed : List Record → Node → Node → Type 0
IsListed list node n = (n ≡ node) ⊎ HasPath list node n

-- the nodes of the entries, in their order
abbrev pub nodes_of : List Made → List Node
nodes_of entries = map (λ m. m.node) entries

-- each of the nodes is the node itself or an ancestor of it
abbrev pub HasOnlyListed : List Record → Node → List Node → Type 0
HasOnlyListed list node nodes = (n : Node) → Contains nodes n → IsListed list node n

-- the node itself and all its ancestors are among the nodes
abbrev pub HasAllListed : List Record → Node → List Node → Type 0
HasAllListed list node nodes = (n : Node) → IsListed list node n → Contains nodes n

-- each node comes after every node to which it has an edge
abbrev pub ComesAfterSources : List Record → List Node → Type 0
ComesAfterSources list nodes = (before rest : List Node) (n s : Node) → nodes ≡ before ++ n ∷ rest → IsEdge list n s → Contains before s

-- a topological order of the node and its ancestors
pub record IsOrder (list : List Record) (node : Node) (nodes : List Node) : Type 0 where
  pub sound : HasOnlyListed list node nodes
  pub complete : HasAllListed list node nodes
  pub once : IsDistinct same_node nodes
  pub after : ComesAfterSources list nodes

-- no other of these orders is less, compared node by node
abbrev pub IsLeast : List Record → Node → List Node → Type 0
IsLeast list node nodes = (other : List Node) → IsOrder list node other → is_gt (slice_cmp node_cmp nodes other) ≡ false

-- the node may come next behind those before it: it is one of all, isn't there yet, and its sources are
pub record IsFree (list : List Record) (all before : List Node) (n : Node) : Type 0 where
  pub listed : Contains all n
  pub new : list_any (same_node n) before ≡ false
  pub sources : (s : Node) → IsEdge list n s → Contains before s

-- each node is the least of those that may come next behind those before it
pub data IsGreedy (list : List Record) (all : List Node) : List Node → List Node → Type 0 where
  done : {before : List Node} → IsGreedy list all before []
  next : {before rest : List Node} {n : Node} → IsFree list all before n → ((m : Node) → IsFree list all before m → is_gt (node_cmp n m) ≡ false)
      → IsGreedy list all (before ++ n ∷ []) rest → IsGreedy list all before (n ∷ rest)

-- among these edges are all that leave the nodes
abbrev pub HasAllFrom : List Record → List Node → List (Node × Node) → Type 0
HasAllFrom list nodes edges = (a b : Node) → Contains nodes a → IsEdge list a b → Contains edges (a, b)

-- each of these edges leaves one of the nodes, and is there once
abbrev pub HasOnlyFrom : List Record → List Node → List (Node × Node) → Type 0
HasOnlyFrom list nodes edges = HasOnce edges × ((a b : Node) → Contains edges (a, b) → IsEdge list a b × Contains nodes a)
