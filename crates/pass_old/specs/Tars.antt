-- What `tar` answers, and what it writes. This project's own rule.
use Rattle.std.specs.Prelude.{ℕ, ◌≡◌, ◌≢◌, ◌⊎◌, List, [], ◌∷◌}
use Rattle.pass_entry.specs.declared.objects.Node.{Node}
use Rattle.pass_entry.specs.declared.record.Record.{Record}
use Rattle.pass_outside.specs.Moments.{Moment, IsDeviceWork}
use Rattle.pass_graph.specs.ListRanks.{HasNode}
use Rattle.pass_files.specs.declared.spelled.Spelled.{Spelled}
use Rattle.pass_files.specs.Spelling.{node_meant}
use Rattle.pass_leaf.specs.Leaves.{Leaf}
use Rattle.pass_status.specs.declared.status.Status.TheVariants as status
use Rattle.pass_ask.specs.Answers.{SinkSeen}
use Rattle.pass_inputs.specs.Tars.{IsTarOf}
use Rattle.pass_old.specs.declared.status.OldStatus.{OldStatus}
use Rattle.pass_old.specs.declared.status.OldStatus.TheVariants as old
use Rattle.pass_old.specs.Answers.{IsTaken, old_text_with}
use Rattle.pass_old.specs.Consults.{IsConsulted}

-- done where all versions are kept; else the first that isn't is told
abbrev pub tar_status : List Node → OldStatus
tar_status [] = old.Same status.Done
tar_status (node ∷ rest) = old.Lacks node

-- the records have the node, and this is its tar by them and the leaves, which lack these versions
pub record IsTarMade (list : List Record) (leaves : List Leaf) (node : Node) (tar : List ℕ) (lacks : List Node) (judged : OldStatus) : Type 0 where
  pub there : (HasNode list node → ⊥) → ⊥
  pub of : IsTarOf list leaves node tar lacks
  pub is : judged ≡ tar_status lacks

-- the records have no such node
pub record IsNoNode (list : List Record) (node : Node) (lacks : List Node) (judged : OldStatus) : Type 0 where
  pub none : HasNode list node → ⊥
  pub lacks_none : lacks ≡ []
  pub is : judged ≡ old.Same (status.NoObject node)

abbrev pub IsTarOfNode : Node → List ℕ → List Node → OldStatus → List Record → List Leaf → Type 0
IsTarOfNode node tar lacks judged list leaves = IsTarMade list leaves node tar lacks judged ⊎ IsNoNode list node lacks judged

-- the node is the one that its numbers give, or that the records mean by the name
abbrev pub IsTarTold : Spelled → List ℕ → List Node → OldStatus → List Record → List Leaf → Type 0
IsTarTold spelled tar lacks judged list leaves = IsTarOfNode (node_meant list spelled) tar lacks judged list leaves

-- The archive comes first, then the store's log. A call of the archive's device failed exactly where that is judged; unless one did
-- the archive reads as before.
pub record IsTarJudged {D A : Type 0} (view : D → Moment) (archive_view : A → Moment) (disk disk_then : D) (archive archived : A) (node : Spelled) (tar : List ℕ) (lacks : List Node) (judged : OldStatus) : Type 0 where
  pub by : IsConsulted view (archive_view archive) disk disk_then (IsTarTold node tar lacks judged) judged
  pub work : IsDeviceWork (archive_view archive) (archive_view archived) (judged ≡ old.ArchiveFault)
  pub reads : judged ≢ old.ArchiveFault → (archive_view archived).seen ≡ (archive_view archive).seen

-- the tar is written where one was made, and else the refusal
abbrev pub tar_text : OldStatus → List ℕ → List ℕ
tar_text (old.Lacks node) tar = tar
tar_text judged tar = old_text_with judged tar

-- What stands behind an answer other than want of memory: what was judged, the tar, which the sink took, and the versions that it
-- lacks, which are handed out unless the sink failed.
pub record IsTarAnswer (By : List ℕ → List Node → OldStatus → Type 0) (sink : SinkSeen) (answered : OldStatus) (handed : List Node) : Type 0 where
  pub judged : OldStatus
  pub tar : List ℕ
  pub lacks : List Node
  pub by : By tar lacks judged
  pub written : IsTaken sink judged answered (tar_text judged tar)
  pub out : answered ≢ old.Same status.WriteFault → handed ≡ lacks
