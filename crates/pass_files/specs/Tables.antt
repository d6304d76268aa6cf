-- The tables tell what the records say.
use Rattle.std.specs.Prelude.{ℕ, ◌≡◌, ◌&&◌, ◌||◌, ◌↔◌, Bool, true, false, List, Option, Some, None, nat_eq, if◌then◌else◌}
use Rattle.std.specs.List.{list_any}
use Rattle.std.specs.HashMap.{get}
use Rattle.std.specs.HashSet.{HashSet, contains}
use Rattle.std.specs.Option.{option_map_or}
use Rattle.std.specs.declared.hash.FoldHasher.{FoldHasher}
use Rattle.std.specs.declared.hash.BuildHasherDefault.{BuildHasherDefault}
use Rattle.pass_entry.specs.declared.objects.Node.{Node}
use Rattle.pass_entry.specs.declared.record.Record.{Record}
use Rattle.pass_plain.specs.Versions.{same_node}
use Rattle.pass_plain.specs.WellLogged.{kind_of}
use Rattle.pass_view.specs.Facts.{AreTags}
use Rattle.pass_files.specs.Data.{Flowing, first_source, gives_program, is_data}
use Rattle.pass_files.specs.Inquiries.{is_shown}
use Rattle.pass_files.specs.Told.{naming_of, ran_of}
use Rattle.pass_files.specs.declared.flows.Flows.{Flows}
use Rattle.pass_files.specs.declared.flows.Way.{Way}
use Rattle.pass_files.specs.declared.inquiry.Choice.{Choice}
use Rattle.pass_files.specs.declared.told.Facts.{Facts}

pub record AreFacts (list : List Record) (facts : Facts) : Type 0 where
  pub kinds : (object : ℕ) → get nat_eq facts.kinds object ≡ kind_of list object
  pub names : (object : ℕ) → get nat_eq facts.names object ≡ naming_of list object
  pub runs : (node : Node) → get same_node facts.runs node ≡ ran_of list node
  pub tags : AreTags list facts.tags

pub record AreFlows (list : List Record) (flows : Flows) : Type 0 where
  pub kinds : (object : ℕ) → get nat_eq flows.kinds object ≡ kind_of list object
  pub firsts : (node : Node) → get same_node flows.firsts node ≡ first_source list node
  pub execs : (node : Node) → contains same_node flows.execs node ≡ list_any (gives_program node) list

abbrev pub Nodes : Type 0
Nodes = HashSet Node (BuildHasherDefault FoldHasher)

-- the node is among those that were found, where only these count
abbrev pub is_in : Option Nodes → Node → Bool
is_in found node = option_map_or (λ (set : Nodes). contains same_node set node) found true

abbrev pub is_kept : List Record → Choice → Option Nodes → Node → Bool
is_kept list choice found node = is_shown list choice node.pnode && is_in found node

-- there is a set exactly where only flows of data count, and it has what they join with the node
abbrev pub AreFoundBy : Way → Bool → List Record → Node → Option Nodes → Type 0
AreFoundBy way true list node (Some set) = (n : Node) → (contains same_node set n ≡ true) ↔ Flowing way list node n
AreFoundBy way false list node None = Unit {0}
AreFoundBy way _ list node _ = ⊥

-- what is found of nodes, with the edge of one more record, where that is one of data
abbrev pub found_on : List Record → Node → Option (Node × Node) → (Node → Bool) → Node → Bool
found_on list first None found n = found n
found_on list first (Some e) found n = if is_data list e.0 e.1 then found n || (same_node e.0 n && (same_node e.1 first || found e.1)) else found n

abbrev pub found_back : List Record → Node → Option (Node × Node) → (Node → Bool) → Node → Bool
found_back list first None found n = found n
found_back list first (Some e) found n = if is_data list e.0 e.1 then found n || (same_node e.1 n && (same_node e.0 first || found e.0)) else found n
