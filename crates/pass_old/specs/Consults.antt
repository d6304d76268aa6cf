-- What an archive and a store's log answer. This project's own rule.
use Rattle.std.specs.Prelude.{ℕ, ◌≡◌, ◌≢◌, ◌⊎◌, Bool, true, false, List, Contains, flat_map}
use Rattle.std.specs.Ordering.{nat_cmp}
use Rattle.pass_entry.specs.declared.record.Record.{Record}
use Rattle.pass_entry.specs.declared.record.Record.TheVariants as log
use Rattle.pass_outside.specs.Moments.{Moment}
use Rattle.pass_waldo.specs.Lookups.{AreAll}
use Rattle.pass_files.specs.Spelling.{no_node}
use Rattle.pass_recover.specs.declared.fault.OpenFault.{OpenFault}
use Rattle.pass_recover.specs.declared.fault.OpenFault.TheVariants as store
use Rattle.pass_recover.specs.Faults.{LogHas, IsCauseOf}
use Rattle.pass_status.specs.declared.status.Status.TheVariants as status
use Rattle.pass_status.specs.Statuses.{status_of_opening}
use Rattle.pass_ask.specs.Asked.{IsLogOf}
use Rattle.pass_leaf.specs.Leaves.{Leaf}
use Rattle.pass_leaf.specs.Archives.{IsArchiveOn}
use Rattle.pass_audit.specs.Audits.{all_judged, audit_text}
use Rattle.pass_old.specs.declared.status.OldStatus.{OldStatus}
use Rattle.pass_old.specs.declared.status.OldStatus.TheVariants as old
use Rattle.pass_old.specs.declared.words.LogQuestion.{LogQuestion}
use Rattle.pass_old.specs.declared.words.LogQuestion.TheVariants.{Named, Check}
use Rattle.pass_old.specs.Questions.{IsUnread}
use Rattle.pass_old.specs.Listings.{version_lines}

-- a record gave the file the name, which it may have lost since
abbrev pub HasHad : List Record → List ℕ → ℕ → Type 0
HasHad list name file = Contains list (log.Name file name)

-- the lines of each file that ever had the name, by the files' numbers
pub record IsNamedText (list : List Record) (leaves : List Leaf) (name text : List ℕ) : Type 0 where
  pub files : List ℕ
  pub all : AreAll nat_cmp files (HasHad list name)
  pub lines : text ≡ flat_map (version_lines leaves) files

-- what these records and leaves answer
abbrev pub IsToldOfBoth : List Record → List Leaf → LogQuestion → List ℕ → Type 0
IsToldOfBoth list leaves (Named name) text = ((file : ℕ) × HasHad list name file) × IsNamedText list leaves name text
IsToldOfBoth list leaves Check text = text ≡ audit_text (all_judged list leaves)

-- no file ever had the name of the question
abbrev pub IsNameless : List Record → LogQuestion → Type 0
IsNameless list (Named name) = (file : ℕ) → HasHad list name file → ⊥
IsNameless list Check = ⊥

-- how they answer a question: with a text, or that no file ever had the name. Want of memory alone is free.
abbrev pub IsToldBothAs : LogQuestion → OldStatus → List ℕ → List Record → List Leaf → Type 0
IsToldBothAs question (old.Same status.Done) text list leaves = IsToldOfBoth list leaves question text
IsToldBothAs question (old.Same (status.NoObject node)) text list leaves = (node ≡ no_node) × IsNameless list question
IsToldBothAs question (old.Same status.NoMemory) text list leaves = Unit {0}
IsToldBothAs question _ text list leaves = ⊥

-- no device call failed, and the disk reads as before
pub record IsAsItWas (before after : Moment) : Type 0 where
  pub faults : after.faults ≡ before.faults
  pub seen : after.seen ≡ before.seen

-- The log wasn't read: a device call failed, or the log or its records have a fault, of which this is the first, or memory was refused.
pub record IsUnreadLog (before after : Moment) (judged : OldStatus) : Type 0 where
  pub fault : OpenFault
  pub is : judged ≡ old.Same (status_of_opening before.faults after.faults fault)
  pub cause : IsCauseOf before after fault
  pub still : fault ≢ store.DiskFault → IsAsItWas before after

-- it was read, and this holds of its records and the leaves
pub record IsReadLog (before after : Moment) (leaves : List Leaf) (Told : List Record → List Leaf → Type 0) : Type 0 where
  pub list : List Record
  pub logged : LogHas before (λ bytes. IsLogOf bytes list)
  pub told : Told list leaves
  pub still : IsAsItWas before after

-- how what was asked of leaves that were read is judged by a store's disk
abbrev pub IsJudgedByLog : Moment → Moment → List Leaf → (List Record → List Leaf → Type 0) → OldStatus → Type 0
IsJudgedByLog before after leaves Told judged = IsUnreadLog before after judged ⊎ IsReadLog before after leaves Told

-- the archive was read, and what was asked is judged by its leaves and the log
pub record IsBothRead (archive before after : Moment) (Told : List Record → List Leaf → Type 0) (judged : OldStatus) : Type 0 where
  pub leaves : List Leaf
  pub end : ℕ
  pub is : IsArchiveOn archive leaves end
  pub by : IsJudgedByLog before after leaves Told judged

-- By what it is judged: the archive comes first, and then the store's log, which is left alone where the archive isn't read.
abbrev pub IsConsulted : {D : Type 0} → (D → Moment) → Moment → D → D → (List Record → List Leaf → Type 0) → OldStatus → Type 0
IsConsulted view archive disk disk_then Told judged = ((disk_then ≡ disk) × IsUnread archive judged) ⊎ IsBothRead archive (view disk) (view disk_then) Told judged

-- a status that other commands have, too
abbrev pub is_same : OldStatus → Bool
is_same (old.Same s) = true
is_same _ = false
