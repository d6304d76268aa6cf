-- What comes of pruning. This project's own rule.
use Rattle.std.specs.Prelude.{ℕ, ◌≡◌, ◌<◌, Bool, List, [], length, None}
use Rattle.pass_entry.specs.declared.objects.Node.{Node}
use Rattle.pass_entry.specs.declared.record.Record.{Record}
use Rattle.pass_outside.specs.Moments.{Moment}
use Rattle.pass_leaf.specs.declared.fault.OldFault.{OldFault}
use Rattle.pass_leaf.specs.Leaves.{Leaf}
use Rattle.pass_leaf.specs.Contents.{content_of, last_content, last_version}
use Rattle.pass_leaf.specs.Archives.{Archive, IsArchiveOn}
use Rattle.pass_leaf.specs.Open.{IsUnwritten}
use Rattle.pass_past.specs.Keepings.{HasKept, HasStopped}
use Rattle.pass_prune.specs.Choices.{IsChosen, IsChoice}
use Rattle.pass_prune.specs.Openings.{IsOpened, IsHandedOut}
use Rattle.pass_prune.specs.Prunings.{chosen_of, pruned}

-- The fresh archive had no leaf, and now has the chosen versions of the other one, with the bytes that they have there, and no other. A
-- crash at any moment since it was opened leaves some of the first of them, and a crash now leaves all. It goes on as the other one.
pub record HasPruned {F : Type 0} (view : F → Moment) (list : List Record) (named : List Node) (leaves : List Leaf) (fresh after : F) (count : ℕ) : Type 0 where
  pub choice : Node → Bool
  pub choice_is : IsChoice list named leaves choice
  pub first : Archive F
  pub last : Archive F
  pub opened : IsOpened view fresh first
  pub empty : first.leaves ≡ []
  pub kept : HasKept view first (chosen_of choice leaves) last
  pub leaves_are : last.leaves ≡ pruned choice leaves
  pub counted : count ≡ length last.leaves
  pub same : (node : Node) → IsChosen list named leaves node → content_of last.leaves node ≡ content_of leaves node
  pub others : (node : Node) → (IsChosen list named leaves node → ⊥) → content_of last.leaves node ≡ None
  pub goes_on : (pnode : ℕ) → (last_version last.leaves pnode ≡ last_version leaves pnode) × (last_content last.leaves pnode ≡ last_content leaves pnode)
  pub handed_out : IsHandedOut view last after

-- Some of the first of them are there, and then a fault came.
pub record IsPartlyPruned {F : Type 0} (view : F → Moment) (list : List Record) (named : List Node) (leaves : List Leaf) (fresh after : F) (fault : OldFault) : Type 0 where
  pub choice : Node → Bool
  pub choice_is : IsChoice list named leaves choice
  pub first : Archive F
  pub last : Archive F
  pub opened : IsOpened view fresh first
  pub empty : first.leaves ≡ []
  pub stopped : HasStopped view first (chosen_of choice leaves) last fault
  pub handed_out : IsHandedOut view last after

-- It has a leaf already, and nothing was written to it.
pub record IsNotFresh (before after : Moment) : Type 0 where
  pub leaves : List Leaf
  pub end : ℕ
  pub archive : IsArchiveOn before leaves end
  pub some : 0 < length leaves
  pub unwritten : IsUnwritten before after
