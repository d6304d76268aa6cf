-- Which words ask for a fresh archive of the chosen versions, how that is judged, and what it leaves. This project's own rule.
use Rattle.std.specs.Prelude.{ℕ, ◌≡◌, ◌≢◌, ◌⊎◌, ◌&&◌, Bool, List, [], ◌∷◌, ◌++◌, Option, Some, None, codes, is_some, length, filter_map, if◌then◌else◌}
use Rattle.std.specs.List.{list_all}
use Rattle.std.specs.Fmt.{decimal}
use Rattle.pass_entry.specs.declared.objects.Node.{Node}
use Rattle.pass_entry.specs.declared.record.Record.{Record}
use Rattle.pass_outside.specs.Moments.{Moment, IsDeviceWork}
use Rattle.pass_recover.specs.Faults.{LogHas}
use Rattle.pass_trace.specs.Words.{is_text}
use Rattle.pass_status.specs.declared.status.Status.TheVariants as status
use Rattle.pass_ask.specs.Answers.{SinkSeen}
use Rattle.pass_ask.specs.Asked.{IsLogOf}
use Rattle.pass_ask.specs.Numbers.{node_in}
use Rattle.pass_leaf.specs.declared.fault.OldFault.{OldFault}
use Rattle.pass_leaf.specs.declared.fault.OldFault.TheVariants as faults
use Rattle.pass_leaf.specs.Leaves.{Leaf}
use Rattle.pass_leaf.specs.Archives.{IsArchiveOn}
use Rattle.pass_prune.specs.declared.fault.PruneFault.{PruneFault}
use Rattle.pass_prune.specs.declared.fault.PruneFault.TheVariants as prune
use Rattle.pass_prune.specs.Choices.{IsFirstLacking}
use Rattle.pass_prune.specs.Openings.{IsUnopenedArchive}
use Rattle.pass_prune.specs.Results.{HasPruned, IsPartlyPruned, IsNotFresh}
use Rattle.pass_old.specs.declared.status.OldStatus.{OldStatus}
use Rattle.pass_old.specs.declared.status.OldStatus.TheVariants as old
use Rattle.pass_old.specs.Answers.{IsWritten}
use Rattle.pass_old.specs.Consults.{IsUnreadLog, IsReadLog}
use Rattle.pass_old.specs.Questions.{IsUnread}

-- Words

-- each of the words is a node
abbrev pub are_nodes : List (List ℕ) → Bool
are_nodes words = list_all (λ w. is_some (node_in w)) words

-- prune FRESH, and behind it nodes: these nodes
abbrev pub prune_of : List (List ℕ) → Option (List Node)
prune_of (name ∷ folder ∷ words) = if is_text name (codes "prune") && are_nodes words then Some (filter_map node_in words) else None
prune_of _ = None

-- the folder of the fresh archive that such words name
abbrev pub folder_of : List (List ℕ) → Option (List ℕ)
folder_of (name ∷ folder ∷ words) = if is_text name (codes "prune") && are_nodes words then Some folder else None
folder_of _ = None

-- Statuses

-- the status of a fault of the fresh archive
abbrev pub status_of_fresh : OldFault → OldStatus
status_of_fresh (faults.BadFrame at) = old.BadFresh at
status_of_fresh faults.NoMemory = old.Same status.NoMemory
status_of_fresh _ = old.FreshFault

abbrev pub status_of_prune : PruneFault → OldStatus
status_of_prune (prune.NoObject node) = old.Same (status.NoObject node)
status_of_prune prune.NotFresh = old.NotFresh
status_of_prune (prune.Fresh fault) = status_of_fresh fault
status_of_prune prune.NoMemory = old.Same status.NoMemory

-- how many versions the fresh archive has, and how many the other one
abbrev pub kept_line : ℕ → ℕ → List ℕ
kept_line kept all = codes "kept " ++ decimal kept ++ codes " of " ++ decimal all ++ codes " versions" ++ 10 ∷ []

-- How it is judged, in this order: the archive, the store's log, the nodes, and then the fresh archive

-- the fresh archive didn't open; or some of the first chosen versions are in it, and then the fault came
abbrev pub IsFreshFault : {F : Type 0} → (F → Moment) → List Record → List Node → List Leaf → F → F → OldFault → Type 0
IsFreshFault view list named leaves fresh after fault = IsUnopenedArchive (view fresh) (view after) fault ⊎ IsPartlyPruned view list named leaves fresh after fault

-- What these records and leaves come to. Want of memory alone is free: the fresh archive wasn't touched, or stopped for want of
-- memory, or is whole and its line isn't.
abbrev pub IsPrunedAs : {F : Type 0} → (F → Moment) → List Record → List Node → List Leaf → F → F → OldStatus → List ℕ → Type 0
IsPrunedAs view list named leaves fresh after (old.Same status.Done) text = (count : ℕ) × HasPruned view list named leaves fresh after count × (text ≡ kept_line count (length leaves))
IsPrunedAs view list named leaves fresh after (old.Same (status.NoObject node)) text = IsFirstLacking list named node × (after ≡ fresh)
IsPrunedAs view list named leaves fresh after old.NotFresh text = IsNotFresh (view fresh) (view after)
IsPrunedAs view list named leaves fresh after (old.BadFresh at) text = IsFreshFault view list named leaves fresh after (faults.BadFrame at)
IsPrunedAs view list named leaves fresh after old.FreshFault text = IsFreshFault view list named leaves fresh after faults.DiskFault
IsPrunedAs view list named leaves fresh after (old.Same status.NoMemory) text =
    (after ≡ fresh) ⊎ (IsFreshFault view list named leaves fresh after faults.NoMemory ⊎ ((count : ℕ) × HasPruned view list named leaves fresh after count))
IsPrunedAs view list named leaves fresh after _ text = ⊥

-- the same, where the first named node that the records haven't is always told
pub record IsPruneTold {F : Type 0} (view : F → Moment) (named : List Node) (fresh after : F) (text : List ℕ) (judged : OldStatus) (list : List Record) (leaves : List Leaf) : Type 0 where
  pub told : IsPrunedAs view list named leaves fresh after judged text
  pub absent : (node : Node) → IsFirstLacking list named node → judged ≡ old.Same (status.NoObject node)

-- how leaves that were read are judged by a store's disk
abbrev pub IsPrunedByLog : {F : Type 0} → (F → Moment) → Moment → Moment → List Node → List Leaf → F → F → List ℕ → OldStatus → Type 0
IsPrunedByLog view before before_then named leaves fresh after text judged =
    ((after ≡ fresh) × IsUnreadLog before before_then judged) ⊎ IsReadLog before before_then leaves (IsPruneTold view named fresh after text judged)

-- the archive was read, and its leaves judged by the log
pub record IsPrunedOf {F : Type 0} (view : F → Moment) (archive before before_then : Moment) (named : List Node) (fresh after : F) (text : List ℕ) (judged : OldStatus) : Type 0 where
  pub leaves : List Leaf
  pub end : ℕ
  pub is : IsArchiveOn archive leaves end
  pub by : IsPrunedByLog view before before_then named leaves fresh after text judged

abbrev pub IsPruning : {D F : Type 0} → (D → Moment) → (F → Moment) → Moment → D → D → List Node → F → F → List ℕ → OldStatus → Type 0
IsPruning view fresh_view archive disk disk_then named fresh after text judged =
    ((disk_then ≡ disk) × (after ≡ fresh) × IsUnread archive judged) ⊎ IsPrunedOf fresh_view archive (view disk) (view disk_then) named fresh after text judged

-- What stands behind the answer: how it was judged, and what it left of the fresh archive; and, but for want of memory, what was
-- written. A call of either archive's disk failed exactly where that is judged.
pub record IsPruneAnswer {D A F : Type 0} (view : D → Moment) (archive_view : A → Moment) (fresh_view : F → Moment) (disk disk_then : D) (archive archived : A) (fresh after : F) (named : List Node) (sink : SinkSeen) (answered : OldStatus) : Type 0 where
  pub judged : OldStatus
  pub text : List ℕ
  pub by : IsPruning view fresh_view (archive_view archive) disk disk_then named fresh after text judged
  pub work : IsDeviceWork (archive_view archive) (archive_view archived) (judged ≡ old.ArchiveFault)
  pub reads : judged ≢ old.ArchiveFault → (archive_view archived).seen ≡ (archive_view archive).seen
  pub fresh_work : IsDeviceWork (fresh_view fresh) (fresh_view after) (judged ≡ old.FreshFault)
  pub written : answered ≢ old.Same status.NoMemory → IsWritten sink judged answered text

-- Both were read, and the fresh archive has the versions that the leaves and the records choose, and no other: with the same bytes,
-- whatever crash comes now.
pub record IsWholePruning {D A F : Type 0} (view : D → Moment) (archive_view : A → Moment) (fresh_view : F → Moment) (disk : D) (archive : A) (fresh after : F) (named : List Node) : Type 0 where
  pub leaves : List Leaf
  pub end : ℕ
  pub is : IsArchiveOn (archive_view archive) leaves end
  pub list : List Record
  pub logged : LogHas (view disk) (λ bytes. IsLogOf bytes list)
  pub count : ℕ
  pub pruned : HasPruned fresh_view list named leaves fresh after count
