-- Where a search along the code of a pattern comes.
use Rattle.std.specs.Prelude.{ℕ, suc, ◌≡◌, ◌+◌, ◌==◌, ◌&&◌, ◌⊎◌, ◌↔◌, Bool, true, List, [], Option, Some, None, length, slice_get, Contains, if◌then◌else◌}
use Rattle.std.specs.List.{filter_map}
use Rattle.pass_entry.specs.declared.objects.Node.{Node}
use Rattle.pass_entry.specs.declared.record.Record.{Record}
use Rattle.pass_plain.specs.Versions.{same_node}
use Rattle.pass_plain.specs.Graphs.{IsEdge}
use Rattle.pass_waldo.specs.Orders.{node_cmp}
use Rattle.pass_waldo.specs.Lookups.{AreAll}
use Rattle.pass_pattern.specs.declared.pattern.EdgeTest.{EdgeTest}
use Rattle.pass_pattern.specs.declared.code.Instruction.{Instruction}
use Rattle.pass_pattern.specs.declared.code.Instruction.TheVariants.{Found, Along, Both}
use Rattle.pass_pattern.specs.declared.search.Visit.{Visit}
use Rattle.pass_pattern.specs.Patterns.{IsStep, HadName, passes}

abbrev pub same_visit : Visit → Visit → Bool
same_visit a b = same_node a.node b.node && a.place == b.place

abbrev pub visit : Node → ℕ → Visit
visit node place = record { node = node; place = place }

-- the instruction leads from the node to this visit
abbrev pub LeadsBy : List Record → Instruction → Node → Visit → Type 0
LeadsBy list Found from to = ⊥
LeadsBy list (Along edge name next) from to = IsStep list edge name from to.node × (to.place ≡ next)
LeadsBy list (Both left right) from to = (to ≡ visit from left) ⊎ (to ≡ visit from right)

-- the code leads from the one visit on to the other
pub record Leads (list : List Record) (code : List Instruction) (from to : Visit) : Type 0 where
  pub instruction : Instruction
  pub at : slice_get code from.place ≡ Some instruction
  pub by : LeadsBy list instruction from.node to

-- so many instructions lead from the one visit to the other
pub data Runs (list : List Record) (code : List Instruction) : ℕ → Visit → Visit → Type 0 where
  here : {x : Visit} → Runs list code 0 x x
  on : {count : ℕ} {x y z : Visit} → Leads list code x y → Runs list code count y z → Runs list code (suc count) x z

abbrev pub Comes : List Record → List Instruction → Visit → Visit → Type 0
Comes list code x y = (count : ℕ) × Runs list code count x y

-- these are all the visits to which the code leads from the first one
abbrev pub AreVisits : List Record → List Instruction → Visit → List Visit → Type 0
AreVisits list code first visits = (x : Visit) → Contains visits x ↔ Comes list code first x

-- the new visits are the old ones, and behind them those with the property that weren't there
pub record Adds (P : Visit → Type 0) (old new : List Visit) : Type 0 where
  pub front : (k : ℕ) (x : Visit) → slice_get old k ≡ Some x → slice_get new k ≡ Some x
  pub sound : (x : Visit) → Contains new x → Contains old x ⊎ P x
  pub whole : (x : Visit) → P x → Contains new x

-- an edge from the node to one of the row leads to the visit
pub record IsPassed (list : List Record) (row : List Node) (edge : EdgeTest) (name : Option (List ℕ)) (next : ℕ) (from : Node) (to : Visit) : Type 0 where
  pub there : Contains row to.node
  pub passed : passes edge from to.node ≡ true
  pub named : HadName list name to.node.pnode
  pub place : to.place ≡ next

-- the edges at which the instruction looks from the node lead to those of the row
abbrev pub LooksAt : List Record → Instruction → Node → List Node → Type 0
LooksAt list Found from row = row ≡ []
LooksAt list (Along edge name next) from row = AreAll node_cmp row (λ b. IsEdge list from b)
LooksAt list (Both left right) from row = row ≡ []

abbrev pub LooksFrom : List Record → Option Instruction → Node → List Node → Type 0
LooksFrom list None from row = row ≡ []
LooksFrom list (Some instruction) from row = LooksAt list instruction from row

-- each edge at which the instruction looks from the node took a step
pub record IsCountedBy (list : List Record) (instruction : Instruction) (from : Node) (old new : ℕ) : Type 0 where
  pub row : List Node
  pub looks : LooksAt list instruction from row
  pub exact : new ≡ old + length row

-- each edge at which the code looks from the visit took a step
pub record IsCounted (list : List Record) (code : List Instruction) (from : Visit) (old new : ℕ) : Type 0 where
  pub row : List Node
  pub looks : LooksFrom list (slice_get code from.place) from.node row
  pub exact : new ≡ old + length row

-- the node, where a path ended at the visit
abbrev pub end_of : Visit → Option Node
end_of x = if x.place == 0 then Some x.node else None

abbrev pub ends_of : List Visit → List Node
ends_of visits = filter_map end_of visits
