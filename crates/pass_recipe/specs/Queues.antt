-- What a queue holds of the nodes that are still to be listed.
use Rattle.std.specs.Prelude.{ℕ, ◌≡◌, ◌≤◌, ◌<◌, ◌⊎◌, true, false, List, [], Some, IsSome, slice_get, Contains}
use Rattle.std.specs.Option.{option_map_or}
use Rattle.std.specs.HashSet.{HashSet, contains}
use Rattle.std.specs.HashMap.{get}
use Rattle.std.specs.BTreeMap.{BTreeMap, get as find_ready}
use Rattle.std.specs.declared.hash.FoldHasher.{FoldHasher}
use Rattle.std.specs.declared.hash.BuildHasherDefault.{BuildHasherDefault}
use Rattle.std.specs.declared.vec.Vec.{Vec}
use Rattle.std.specs.declared.alloc.Global.{Global}
use Rattle.pass_entry.specs.declared.objects.Node.{Node}
use Rattle.pass_entry.specs.declared.record.Record.{Record}
use Rattle.pass_plain.specs.Versions.{same_node}
use Rattle.pass_plain.specs.Graphs.{IsEdge}
use Rattle.pass_waldo.specs.Orders.{node_cmp}
use Rattle.pass_waldo.specs.Lookups.{AreAll}
use Rattle.pass_recipe.specs.declared.waiters.Waiting.{Waiting}
use Rattle.pass_recipe.specs.declared.waiters.Waiters.{Waiters}
use Rattle.pass_recipe.specs.declared.queue.Queue.{Queue}

abbrev pub Nodes : Type 0
Nodes = HashSet Node (BuildHasherDefault FoldHasher)

-- the nodes that wait for the source
abbrev pub waiting_for : Waiters → Node → List Waiting
waiting_for waiters source = option_map_or (λ v. v.items) (get same_node waiters.rows source) []

-- of these nodes those from the one place up to the other are made
abbrev pub AreMade : Nodes → List Node → ℕ → ℕ → Type 0
AreMade made nodes from end = (k : ℕ) (s : Node) → slice_get nodes k ≡ Some s → from ≤ k → k < end → contains same_node made s ≡ true

-- the node is one of all, isn't made, and has these sources
pub record IsUnmade (list : List Record) (all : List Node) (made : Nodes) (node : Node) (sources : List Node) : Type 0 where
  pub listed : Contains all node
  pub new : contains same_node made node ≡ false
  pub edges : AreAll node_cmp sources (λ s. IsEdge list node s)

-- its sources before the next one are made
pub record IsFit (list : List Record) (all : List Node) (made : Nodes) (one : Waiting) : Type 0 where
  pub unmade : IsUnmade list all made one.node one.sources.items
  pub before : AreMade made one.sources.items 0 one.next

-- its sources before the next one are made, but for the one for which it waits
pub record WaitsFor (list : List Record) (all : List Node) (made : Nodes) (source : Node) (one : Waiting) : Type 0 where
  pub unmade : IsUnmade list all made one.node one.sources.items
  pub leads : IsEdge list one.node source
  pub before : (k : ℕ) (s : Node) → slice_get one.sources.items k ≡ Some s → k < one.next → (contains same_node made s ≡ true) ⊎ (s ≡ source)

-- all its sources are made
pub record IsReady (list : List Record) (all : List Node) (made : Nodes) (node : Node) (sources : List Node) : Type 0 where
  pub unmade : IsUnmade list all made node sources
  pub before : (s : Node) → IsEdge list node s → contains same_node made s ≡ true

abbrev pub Ready : Type 0
Ready = BTreeMap Node (Vec Node Global)

-- the queue's nodes are ready, or wait for a source that isn't made
pub record IsQueue (list : List Record) (all : List Node) (queue : Queue) : Type 0 where
  pub ready : (n : Node) (v : Vec Node Global) → find_ready node_cmp queue.ready n ≡ Some v → IsReady list all queue.made n v.items
  pub waiting : (s : Node) (one : Waiting) → contains same_node queue.made s ≡ false → Contains (waiting_for queue.waiters s) one → WaitsFor list all queue.made s one

-- the node waits for a source that isn't made
pub record IsWaiting (queue : Queue) (n : Node) : Type 0 where
  pub source : Node
  pub one : Waiting
  pub unmade : contains same_node queue.made source ≡ false
  pub there : Contains (waiting_for queue.waiters source) one
  pub is : one.node ≡ n

-- the queue has the node
abbrev pub IsHeld : Queue → Node → Type 0
IsHeld queue n = IsSome (find_ready node_cmp queue.ready n) ⊎ IsWaiting queue n
