-- The nodes of a list of records, and a number for each of them that falls along every edge. This project's own measure.
use Rattle.std.specs.Prelude.{ℕ, ◌+◌, ◌==◌, ◌≡◌, ◌≤◌, ◌<◌, Bool, true, false, ◌&&◌, ◌||◌, List, Option, Some, None, ◌↔◌, Contains, map}
use Rattle.std.specs.List.{position_or_len, filter_map, IsDistinct}
use Rattle.pass_entry.specs.declared.objects.Node.{Node}
use Rattle.pass_entry.specs.declared.record.Record.{Record}
use Rattle.pass_entry.specs.declared.record.Record.TheVariants as log
use Rattle.pass_plain.specs.Versions.{same_node}
use Rattle.pass_plain.specs.Graphs.{IsEdge, IsAcyclic}
use Rattle.pass_plain.specs.WellLogged.{has_source, is_known, current_of, IsWellLogged}

-- the record begins the version after this one
abbrev pub begins_after : Node → Record → Bool
begins_after node (log.Version next) = next.pnode == node.pnode && next.version == node.version + 1
begins_after node _ = false

-- the place of the first record that names the node as a source or ends it, else the length
abbrev pub list_rank : List Record → Node → ℕ
list_rank list node = position_or_len (λ r. has_source node r || begins_after node r) list

-- the node that a record makes
abbrev pub made_node : Record → Option Node
made_node (log.Object pnode k) = Some (record { pnode = pnode; version = 1 })
made_node (log.Version node) = Some node
made_node _ = None

-- the nodes of a list, in the order in which it makes them
abbrev pub graph_nodes : List Record → List Node
graph_nodes list = filter_map made_node list

-- a version of one of the list's objects, from 1 to the current one
pub record HasNode (list : List Record) (node : Node) : Type 0 where
  pub known : is_known list node.pnode ≡ true
  pub low : 1 ≤ node.version
  pub come : node.version ≤ current_of list node.pnode

-- of a well logged list's nodes each is there once
abbrev pub NodesLaw : Type 0
NodesLaw = (list : List Record) → IsWellLogged list
    → ((node : Node) → Contains (graph_nodes list) node ↔ HasNode list node) × IsDistinct same_node (graph_nodes list)

-- along every edge of a well logged list the rank falls, so it has no cycle
abbrev pub ListRankLaw : Type 0
ListRankLaw = (list : List Record) → IsWellLogged list → (a b : Node) → IsEdge list a b → list_rank list b < list_rank list a

abbrev pub ListAcyclicLaw : Type 0
ListAcyclicLaw = (list : List Record) → IsWellLogged list → IsAcyclic list

-- the nodes of the list with their ranks
abbrev pub ranks_of : List Record → List (Node × ℕ)
ranks_of list = map (λ n. (n, list_rank list n)) (graph_nodes list)

-- the numbers of the nodes fall along every edge
abbrev pub FallAlong : List Record → List (Node × ℕ) → Type 0
FallAlong list places = (a b : Node) (m n : ℕ) → IsEdge list a b → Contains places (a, m) → Contains places (b, n) → n < m
