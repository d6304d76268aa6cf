-- The rows of a graph's edges.
use Rattle.std.specs.Prelude.{◌≡◌, ◌<◌, List, [], IsSomeAnd, vec_len, vec_capacity}
use Rattle.std.specs.Option.{option_map_or}
use Rattle.std.specs.HashMap.{get}
use Rattle.std.specs.List.Sorted.{IsStrictlySortedBy}
use Rattle.pass_entry.specs.declared.objects.Node.{Node}
use Rattle.pass_plain.specs.Versions.{same_node}
use Rattle.pass_waldo.specs.Orders.{node_cmp}
use Rattle.pass_waldo.specs.declared.edges.Edges.{Edges}

abbrev pub parents_of : Edges → Node → List Node
parents_of edges node = option_map_or (λ row. row.parents.items) (get same_node edges.rows node) []

abbrev pub children_of : Edges → Node → List Node
children_of edges node = option_map_or (λ row. row.children.items) (get same_node edges.rows node) []

-- each node has the same edges
pub record HaveSameEdges (old new : Edges) : Type 0 where
  pub parents : (node : Node) → parents_of new node ≡ parents_of old node
  pub children : (node : Node) → children_of new node ≡ children_of old node

-- each row is in ascending order, without repeats
abbrev pub HaveSortedEdges : Edges → Type 0
HaveSortedEdges edges = (node : Node) → IsStrictlySortedBy node_cmp (parents_of edges node) × IsStrictlySortedBy node_cmp (children_of edges node)

-- a parent, or a child, may be put into the node's row without taking memory
abbrev pub HasParentRoom : Edges → Node → Type 0
HasParentRoom edges node = IsSomeAnd (get same_node edges.rows node) (λ row. vec_len row.parents < vec_capacity row.parents)

abbrev pub HasChildRoom : Edges → Node → Type 0
HasChildRoom edges node = IsSomeAnd (get same_node edges.rows node) (λ row. vec_len row.children < vec_capacity row.children)

abbrev pub HasRoom : Edges → Node → Type 0
HasRoom edges node = HasParentRoom edges node × HasChildRoom edges node
