-- Which edges are flows of data. This project's own rule.
--
-- It is read off the records alone. Only an exec gives a process an attribute: it begins a version, whose first source is the
-- program's file, and gives it the attribute EXE. Only a fork gives the first version of a process a process as its source. So the
-- edges of a fork and of an exec are known exactly. A version that reads the file of its own program has no second edge to it: such a
-- read can't be told from the exec, and its edge counts as the exec's.
use Rattle.std.specs.Prelude.{◌≡◌, ◌==◌, ◌-◌, ◌&&◌, ◌||◌, Bool, true, false, not, List, Option, Some, None, fold, bytes_eq, codes, if◌then◌else◌}
use Rattle.std.specs.List.{list_any}
use Rattle.std.specs.Option.{option_map_or}
use Rattle.pass_entry.specs.declared.objects.Node.{Node}
use Rattle.pass_entry.specs.declared.record.Record.{Record}
use Rattle.pass_entry.specs.declared.record.Record.TheVariants as log
use Rattle.pass_plain.specs.Graphs.{IsEdge}
use Rattle.pass_plain.specs.Versions.{same_node}
use Rattle.pass_view.specs.Facts.{is_process}
use Rattle.pass_files.specs.declared.flows.Way.{Way}
use Rattle.pass_files.specs.declared.flows.Way.TheVariants.{Back, On}

abbrev pub version_before : Node → Node
version_before node = record { pnode = node.pnode; version = node.version - 1 }

-- the edge that a record makes: what has it, and to what it leads
abbrev pub edge_in : Record → Option (Node × Node)
edge_in (log.Input target source) = Some (target, source)
edge_in (log.Version node) = Some (node, version_before node)
edge_in _ = None

abbrev pub first_look : Node → Option Node → Record → Option Node
first_look node (Some first) r = Some first
first_look node None (log.Input target source) = if same_node target node then Some source else None
first_look node None _ = None

-- the first source of a version
abbrev pub first_source : List Record → Node → Option Node
first_source list node = fold (first_look node) None list

-- the record names the version's program
abbrev pub gives_program : Node → Record → Bool
gives_program node (log.Attr target attr value) = same_node target node && bytes_eq attr (codes "EXE")
gives_program node _ = false

-- a process begins as its parent was
abbrev pub is_of_fork : List Record → Node → Node → Bool
is_of_fork list target source = (target.version == 1) && (is_process list target.pnode && is_process list source.pnode)

-- an exec leads from the version that it begins to its program, and to the version before
abbrev pub is_of_exec : List Record → Node → Node → Bool
is_of_exec list target source =
    is_process list target.pnode && (list_any (gives_program target) list && ((source.pnode == target.pnode) || option_map_or (same_node source) (first_source list target) false))

abbrev pub is_data : List Record → Node → Node → Bool
is_data list target source = not (is_of_fork list target source || is_of_exec list target source)

abbrev pub IsDataEdge : List Record → Node → Node → Type 0
IsDataEdge list target source = IsEdge list target source × (is_data list target source ≡ true)

-- edges of data lead from the one node to the other
pub data HasDataPath (list : List Record) : Node → Node → Type 0 where
  edge : {a b : Node} → IsDataEdge list a b → HasDataPath list a b
  step : {a b c : Node} → IsDataEdge list a b → HasDataPath list b c → HasDataPath list a c

-- edges of data lead on from the first node this way
abbrev pub Flowing : Way → List Record → Node → Node → Type 0
Flowing Back list first n = HasDataPath list first n
Flowing On list first n = HasDataPath list n first
