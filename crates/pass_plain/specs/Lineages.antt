-- What the entries of one object make of its version, step by step. The rule of versions, marks and freezes is this project's own.
use Rattle.std.specs.Prelude.{ℕ, ◌+◌, ◌==◌, ◌≡◌, Bool, true, false, not, ◌&&◌, List, [], ◌∷◌, ◌++◌, Option, if◌then◌else◌}
use Rattle.std.specs.Option.{option_map_or}
use Rattle.std.specs.List.{list_any}
use Rattle.pass_entry.specs.declared.entry.Entry.{Entry}
use Rattle.pass_entry.specs.declared.entry.Act.{Act}
use Rattle.pass_entry.specs.declared.entry.Act.TheVariants as act
use Rattle.pass_entry.specs.declared.objects.Node.{Node}
use Rattle.pass_plain.specs.Histories.{is_fault, uses}
use Rattle.pass_plain.specs.Sessions.{Session}
use Rattle.pass_plain.specs.Legal.{IsLegal, MayFollow}
use Rattle.pass_plain.specs.Versions.{same_node, node_in, source_in, nodes_of, marked_after, sources_after, is_fresh, is_freeze}

-- an object with its current version, whether that version was used as a source, and the nodes that it has taken from
pub record Lineage : Type 0 where
  pub node : Node
  pub marked : Bool
  pub sources : List Node

-- the current version has taken from the node
abbrev pub has : Lineage → Node → Bool
has l node = list_any (same_node node) l.sources

-- the two differ at most in the order of their sources and in how often one stands there
pub record IsAlike (l m : Lineage) : Type 0 where
  pub node : l.node ≡ m.node
  pub marked : l.marked ≡ m.marked
  pub sources : (node : Node) → has l node ≡ has m node

-- the lineage of an object after a history
abbrev pub lineage_after : Session → List Entry → ℕ → Lineage
lineage_after session history object = record {
  node = node_in session (nodes_of session history) object;
  marked = marked_after session history object;
  sources = sources_after session history object;
}

-- the current version is used as a source
abbrev pub used : Lineage → Lineage
used l = record l { marked = true }

-- a later version, which nobody used and which has taken from nothing
abbrev pub frozen : Lineage → Lineage
frozen l = record { node = record { pnode = l.node.pnode; version = l.node.version + 1 }; marked = false; sources = [] }

-- the current version takes from the node
abbrev pub with_source : Lineage → Node → Lineage
with_source l source = record l { sources = source ∷ l.sources }

-- a source that is known is dropped; a new one freezes a marked version first
abbrev pub linked : Lineage → Node → Lineage
linked l source = if has l source then l else if l.marked then with_source (frozen l) source else with_source l source

-- what an act makes of its object's lineage; `source` is the node from which it takes, if it takes
abbrev pub lineage_act : Lineage → Option Node → Act → Lineage
lineage_act l source act.Freeze = frozen l
lineage_act l source (act.Exec out name args) = option_map_or (with_source (frozen l)) source (frozen l)
lineage_act l source a = if uses a then used l else option_map_or (linked l) source l

-- the act takes from a node from which the version has not taken
abbrev pub is_fresh_act : Lineage → Option Node → Act → Bool
is_fresh_act l source (act.Exec out name args) = true
is_fresh_act l source a = option_map_or (λ s. not (has l s)) source false

-- the act freezes its object
abbrev pub is_freeze_act : Lineage → Option Node → Act → Bool
is_freeze_act l source act.Freeze = true
is_freeze_act l source (act.Exec out name args) = true
is_freeze_act l source a = is_fresh_act l source a && l.marked

-- an entry that is no fault changes its object's lineage as its act says, and no other
pub record IsLineageStep (session : Session) (history : List Entry) (e : Entry) (l : Lineage) (source : Option Node) : Type 0 where
  pub moves : is_fault e.reply ≡ false → IsAlike (lineage_after session (history ++ e ∷ []) e.what) (lineage_act l source e.act)
  pub fresh : is_fault e.reply ≡ false → is_fresh session history (nodes_of session history) e ≡ is_fresh_act l source e.act
  pub freezes : is_fault e.reply ≡ false → is_freeze session history (nodes_of session history) e ≡ is_freeze_act l source e.act
  pub stays : is_fault e.reply ≡ true → IsAlike (lineage_after session (history ++ e ∷ []) e.what) l
  pub others : (object : ℕ) → (e.what == object) ≡ false → IsAlike (lineage_after session (history ++ e ∷ []) object) (lineage_after session history object)

abbrev pub LineageLaw : Type 0
LineageLaw = (session : Session) (history : List Entry) (e : Entry) → IsLegal session history → MayFollow session history e
    → IsLineageStep session history e (lineage_after session history e.what) (source_in (nodes_of session history) e)
