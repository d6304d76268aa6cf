-- What contracts see of a process.
use Rattle.std.specs.Prelude.{◌≡◌, ℕ, ◌≤◌, ◌^◌, List, length}
use Rattle.std.specs.Ordering.{nat_cmp}
use Rattle.std.specs.FinSet as finite_set
use Rattle.pass_entry.specs.declared.entry.Entry.{Entry}
use Rattle.pass_plain.specs.Lineages.{Lineage}
use Rattle.pass_plain.specs.Processes.{Process, process_after}
use Rattle.pass_plain.specs.Sessions.{Session}
use Rattle.pass_version.specs.States.{VersionState, IsStateAfter}

-- some processes, and for how many more there is room
pub record ChildrenView : Type 0 where
  pub pnodes : finite_set.FinSet nat_cmp
  pub room : ℕ

-- the state of a living process, and for how many more children there is room
pub record HoldingsView : Type 0 where
  pub state : Process
  pub room : ℕ

-- a process with what was seen of it: its state, its version, from how many more sources that may take, and for how many
-- more children there is room
pub record ProcessView : Type 0 where
  pub who : ℕ
  pub seen : List Entry
  pub state : Process
  pub lineage : Lineage
  pub spare : ℕ
  pub room : ℕ

abbrev pub process_of : ℕ → List Entry → HoldingsView → VersionState → ProcessView
process_of who seen h v = record { who = who; seen = seen; state = h.state; lineage = v.lineage; spare = v.spare; room = h.room }

-- the process is the one of the definitions after what was seen of it, and its version may take from each of its children
pub record IsProcess (session : Session) (p : ProcessView) : Type 0 where
  pub state : process_after p.seen p.who ≡ p.state
  pub node : p.lineage.node.pnode ≡ p.who
  pub lineage : IsStateAfter session p.seen p.lineage
  pub sources : finite_set.len p.state.children ≤ p.spare
  pub few : length p.seen ≤ 2 ^ 32
