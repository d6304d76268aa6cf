-- Which versions go onto a fresh archive. This project's own rule.
use Rattle.std.specs.Prelude.{◌≡◌, ◌⊎◌, ◌↔◌, Bool, true, List, [], ◌∷◌, Contains, codes}
use Rattle.std.specs.List.{list_any}
use Rattle.pass_entry.specs.declared.objects.Node.{Node}
use Rattle.pass_entry.specs.declared.record.Record.{Record}
use Rattle.pass_plain.specs.Graphs.{HasPath}
use Rattle.pass_plain.specs.Versions.{same_node}
use Rattle.pass_graph.specs.ListRanks.{HasNode}
use Rattle.pass_waldo.specs.Lookups.{values_in}
use Rattle.pass_leaf.specs.Leaves.{Leaf}
use Rattle.pass_leaf.specs.Contents.{last_version}

-- the leaves end with this version of its file
abbrev pub IsCurrent : List Leaf → Node → Type 0
IsCurrent leaves node = last_version leaves node.pnode ≡ node.version

-- the records give the node the attribute `keep`, of any value
abbrev pub is_tagged : List Record → Node → Bool
is_tagged list node = list_any (λ v. same_node node v.0) (values_in list (codes "keep"))

-- the node is a named one, or one of those that a named one came from
abbrev pub IsNamed : List Record → List Node → Node → Type 0
IsNamed list named node = (one : Node) × Contains named one × ((node ≡ one) ⊎ HasPath list one node)

-- A version is chosen that is its file's last one, or is tagged, or is named, or is what a named node came from.
abbrev pub IsChosen : List Record → List Node → List Leaf → Node → Type 0
IsChosen list named leaves node = IsCurrent leaves node ⊎ ((is_tagged list node ≡ true) ⊎ IsNamed list named node)

-- a test that tells the chosen versions
abbrev pub IsChoice : List Record → List Node → List Leaf → (Node → Bool) → Type 0
IsChoice list named leaves choice = (node : Node) → (choice node ≡ true) ↔ IsChosen list named leaves node

-- the node is the first of the named ones that the graph of the records hasn't
abbrev pub IsFirstLacking : List Record → List Node → Node → Type 0
IsFirstLacking list [] node = ⊥
IsFirstLacking list (one ∷ named) node = ((node ≡ one) × ¬ (HasNode list one)) ⊎ (HasNode list one × IsFirstLacking list named node)
