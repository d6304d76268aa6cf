-- The part of a graph that a view shows. This project's own rule.
use Rattle.std.specs.Prelude.{◌≡◌, ◌⊎◌, List, map, Option, Some, None}
use Rattle.std.specs.Ordering.{ordering_then}
use Rattle.std.specs.declared.cmp.Ordering.{Ordering}
use Rattle.pass_entry.specs.declared.objects.Node.{Node}
use Rattle.pass_entry.specs.declared.record.Record.{Record}
use Rattle.pass_plain.specs.Graphs.{IsEdge, HasPath}
use Rattle.pass_graph.specs.ListRanks.{HasNode}
use Rattle.pass_waldo.specs.Orders.{node_cmp}
use Rattle.pass_view.specs.declared.picture.Link.{Link}
use Rattle.pass_view.specs.declared.picture.Shown.{Shown}

-- the whole graph shows each of its nodes, the view of a node that node and its ancestors
abbrev pub IsShown : List Record → Option Node → Node → Type 0
IsShown list None n = HasNode list n
IsShown list (Some node) n = (n ≡ node) ⊎ HasPath list node n

-- the whole graph shows each of its edges, the view of a node those that leave its nodes
abbrev pub IsShownEdge : List Record → Option Node → Node × Node → Type 0
IsShownEdge list None e = IsEdge list e.0 e.1
IsShownEdge list (Some node) e = IsEdge list e.0 e.1 × IsShown list (Some node) e.0

-- edges in the order of what they lead from, and then of what they lead to
abbrev pub edge_cmp : Node × Node → Node × Node → Ordering
edge_cmp a b = ordering_then (node_cmp a.0 b.0) (node_cmp a.1 b.1)

abbrev pub nodes_of : List Shown → List Node
nodes_of shown = map (λ s. s.node) shown

abbrev pub ends_of : Link → Node × Node
ends_of link = (link.target, link.source)

abbrev pub edges_of : List Link → List (Node × Node)
edges_of links = map ends_of links
