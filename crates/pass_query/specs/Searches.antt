-- What a search has come to, and how it goes on.
use Rattle.std.specs.Prelude.{ℕ, suc, ◌≡◌, ◌+◌, ◌≤◌, ◌⊎◌, Bool, not, List, [], ◌∷◌, ◌++◌, map, filter, length, Some, slice_get, Contains}
use Rattle.std.specs.List.{list_any}
use Rattle.std.specs.HashSet.{HashSet, contains}
use Rattle.std.specs.declared.hash.FoldHasher.{FoldHasher}
use Rattle.std.specs.declared.hash.BuildHasherDefault.{BuildHasherDefault}
use Rattle.pass_entry.specs.declared.objects.Node.{Node}
use Rattle.pass_entry.specs.declared.record.Record.{Record}
use Rattle.pass_plain.specs.Versions.{same_node}
use Rattle.pass_plain.specs.Graphs.{IsEdge, HasPath}
use Rattle.pass_waldo.specs.Orders.{node_cmp}
use Rattle.pass_waldo.specs.Lookups.{AreAll}
use Rattle.pass_query.specs.declared.search.Reached.{Reached}
use Rattle.pass_query.specs.declared.walk.Way.{Way}
use Rattle.pass_query.specs.declared.walk.Way.TheVariants.{Back, On}

-- an edge leads from the one node to the other this way
abbrev pub Leads : Way → List Record → Node → Node → Type 0
Leads Back list a b = IsEdge list a b
Leads On list a b = IsEdge list b a

-- edges lead from the one node to the other this way
abbrev pub Reaches : Way → List Record → Node → Node → Type 0
Reaches Back list a b = HasPath list a b
Reaches On list a b = HasPath list b a

abbrev pub has_node : List Reached → Node → Bool
has_node reached node = list_any (λ r. same_node node r.node) reached

-- the set has the nodes that were reached
abbrev pub AreSeen : List Reached → HashSet Node (BuildHasherDefault FoldHasher) → Type 0
AreSeen reached seen = (n : Node) → contains same_node seen n ≡ has_node reached n

-- the nodes of the row that are new are reached from the place, in their order
abbrev pub looked : List Reached → ℕ → List Node → List Reached
looked reached place row = reached ++ map (λ n. record { node = n; before = place }) (filter (λ n. not (has_node reached n)) row)

-- A search has reached these nodes when it has looked from those before the place, which took so many steps.
pub data IsSearch (way : Way) (list : List Record) (first : Node) : List Reached → ℕ → ℕ → Type 0 where
  begin : IsSearch way list first (record { node = first; before = 0 } ∷ []) 0 0
  look : {reached : List Reached} {next count : ℕ} {from : Reached} {row : List Node} → IsSearch way list first reached next count
      → slice_get reached next ≡ Some from → AreAll node_cmp row (Leads way list from.node)
      → IsSearch way list first (looked reached next row) (next + 1) (count + length row)

-- it has looked from all that it has reached
pub record IsWholeSearch (way : Way) (list : List Record) (first : Node) (reached : List Reached) : Type 0 where
  pub count : ℕ
  pub search : IsSearch way list first reached (length reached) count

-- the list has each edge that leads on from the first node, or from one that is reached from it
abbrev pub HasAllLed : Way → List Record → Node → List (Node × Node) → Type 0
HasAllLed way list first edges = (a b : Node) → Leads way list a b → (a ≡ first) ⊎ Reaches way list first a → Contains edges (a, b)

-- the list has no edge twice
abbrev pub HasOnce : List (Node × Node) → Type 0
HasOnce edges = (i j : ℕ) (e : Node × Node) → slice_get edges i ≡ Some e → slice_get edges j ≡ Some e → i ≡ j

-- each edge of the list leads on from the first node, or from one that is reached from it, and is there once
abbrev pub HasOnlyLed : Way → List Record → Node → List (Node × Node) → Type 0
HasOnlyLed way list first edges = HasOnce edges × ((a b : Node) → Contains edges (a, b) → Leads way list a b × ((a ≡ first) ⊎ Reaches way list first a))

-- each node but the first was reached from one before it
abbrev pub IsChained : List Reached → Type 0
IsChained reached = (k : ℕ) (r : Reached) → slice_get reached (suc k) ≡ Some r → r.before ≤ k

-- the nodes through which the search came to the place
pub data IsRoute (reached : List Reached) : ℕ → List Node → Type 0 where
  start : {r : Reached} → slice_get reached 0 ≡ Some r → IsRoute reached 0 (r.node ∷ [])
  on : {k : ℕ} {r : Reached} {nodes : List Node} → slice_get reached (suc k) ≡ Some r → IsRoute reached r.before nodes → IsRoute reached (suc k) (nodes ++ r.node ∷ [])
