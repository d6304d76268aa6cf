-- What the tables of a choice and of a walk over leaves tell.
use Rattle.std.specs.Prelude.{ℕ, ◌≡◌, ◌≢◌, ◌≤◌, ◌⊎◌, ◌==◌, ◌||◌, ◌∷◌, ◌++◌, [], Bool, List, Vec, None, IfSome, IfNone, if◌then◌else◌}
use Rattle.std.specs.Ordering.{nat_cmp}
use Rattle.std.specs.BTreeMap.{BTreeMap, get}
use Rattle.std.specs.HashSet.{contains}
use Rattle.std.specs.declared.alloc.Global.{Global}
use Rattle.pass_entry.specs.declared.objects.Node.{Node}
use Rattle.pass_entry.specs.declared.record.Record.{Record}
use Rattle.pass_plain.specs.Versions.{same_node}
use Rattle.pass_graph.specs.ListRanks.{HasNode}
use Rattle.pass_leaf.specs.Leaves.{Leaf}
use Rattle.pass_leaf.specs.Contents.{last_content, last_version, AreLeaves}
use Rattle.pass_leaf.specs.Keeping.{FileVersion}
use Rattle.pass_prune.specs.declared.choosing.Choice.{Choice}
use Rattle.pass_prune.specs.Prunings.{version_behind}

-- the graph of the records has these nodes
abbrev pub AreNodes : List Record → List Node → Type 0
AreNodes list [] = Unit {0}
AreNodes list (node ∷ nodes) = HasNode list node × AreNodes list nodes

abbrev pub is_last_by : Choice → Node → Bool
is_last_by c node = last_version c.leaves.now node.pnode == node.version

abbrev pub is_chosen_by : Choice → Node → Bool
is_chosen_by c node = contains same_node c.nodes node || is_last_by c node

-- the version of the leaf, where it is chosen
abbrev pub chosen_one : (Node → Bool) → List Leaf → Leaf → List FileVersion
chosen_one choice past leaf = if choice leaf.node then version_behind past leaf ∷ [] else []

-- all leaves are these, the leaf behind them, and more behind it
pub record IsNext (all past : List Leaf) (leaf : Leaf) (more : List Leaf) : Type 0 where
  pub are : AreLeaves (past ++ leaf ∷ more)
  pub whole : all ≡ past ++ leaf ∷ more

-- Where a table has the content of a file, it is that of its last leaf so far. Where it has none, the file has no leaf yet, or no more
-- come.
pub record IsSoFar (all past : List Leaf) (contents : BTreeMap ℕ (Vec ℕ Global)) (pnode : ℕ) : Type 0 where
  pub there : IfSome (get nat_cmp contents pnode) (λ v. v.items ≡ last_content past pnode)
  pub gone : IfNone (get nat_cmp contents pnode) ((last_content past pnode ≡ []) ⊎ (last_version all pnode ≤ last_version past pnode))

-- it is so of each file
abbrev pub AreSoFar : List Leaf → List Leaf → BTreeMap ℕ (Vec ℕ Global) → Type 0
AreSoFar all past contents = (pnode : ℕ) → IsSoFar all past contents pnode

-- the content of one file was taken out of the table
pub record IsTakenOut (all past : List Leaf) (contents : BTreeMap ℕ (Vec ℕ Global)) (file : ℕ) : Type 0 where
  pub others : (pnode : ℕ) → pnode ≢ file → IsSoFar all past contents pnode
  pub none : get nat_cmp contents file ≡ None
