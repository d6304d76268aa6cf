-- What an archive answers. This project's own rule.
use Rattle.std.specs.Prelude.{ℕ, ◌≡◌, ◌⊎◌, true, List, Some, None, is_some}
use Rattle.pass_entry.specs.declared.objects.Node.{Node}
use Rattle.pass_outside.specs.Moments.{Moment}
use Rattle.pass_leaf.specs.Leaves.{Leaf}
use Rattle.pass_leaf.specs.Contents.{content_of}
use Rattle.pass_leaf.specs.declared.fault.OldFault.{OldFault}
use Rattle.pass_leaf.specs.Archives.{IsArchiveOn, IsUnopened}
use Rattle.pass_status.specs.declared.status.Status.TheVariants as status
use Rattle.pass_old.specs.declared.diffing.ByteRange.{ByteRange}
use Rattle.pass_old.specs.declared.status.OldStatus.{OldStatus}
use Rattle.pass_old.specs.declared.status.OldStatus.TheVariants as old
use Rattle.pass_old.specs.declared.words.OldQuestion.{OldQuestion}
use Rattle.pass_old.specs.declared.words.OldQuestion.TheVariants.{Cat, Versions, Diff}
use Rattle.pass_old.specs.Diffs.{AreDifferences, range_lines}
use Rattle.pass_old.specs.Statuses.{status_of_archive}
use Rattle.pass_old.specs.Listings.{version_lines}

-- the ranges in which two contents differ, a line each
pub record IsDifferenceText (before after text : List ℕ) : Type 0 where
  pub ranges : List ByteRange
  pub are : AreDifferences before after ranges
  pub lines : text ≡ range_lines ranges

-- the same of two versions that were kept
pub record IsDiffText (leaves : List Leaf) (from to : Node) (text : List ℕ) : Type 0 where
  pub before : List ℕ
  pub after : List ℕ
  pub first : content_of leaves from ≡ Some before
  pub second : content_of leaves to ≡ Some after
  pub differs : IsDifferenceText before after text

-- what these leaves answer: a version's bytes, the versions of a file, or where two versions differ
abbrev pub IsToldBy : List Leaf → OldQuestion → List ℕ → Type 0
IsToldBy leaves (Cat node) text = content_of leaves node ≡ Some text
IsToldBy leaves (Versions file) text = text ≡ version_lines leaves file
IsToldBy leaves (Diff from to) text = IsDiffText leaves from to text

-- the first node of the question that no leaf has
abbrev pub IsLacking : List Leaf → OldQuestion → Node → Type 0
IsLacking leaves (Cat node) lacks = (lacks ≡ node) × (content_of leaves node ≡ None)
IsLacking leaves (Versions file) lacks = ⊥
IsLacking leaves (Diff from to) lacks = ((lacks ≡ from) × (content_of leaves from ≡ None))
    ⊎ ((lacks ≡ to) × (is_some (content_of leaves from) ≡ true) × (content_of leaves to ≡ None))

-- how these leaves answer a question: with a text, or by the first node that it lacks. Want of memory alone is free.
abbrev pub IsToldAs : List Leaf → OldQuestion → OldStatus → List ℕ → Type 0
IsToldAs leaves question (old.Same status.Done) text = IsToldBy leaves question text
IsToldAs leaves question (old.NoVersion node) text = IsLacking leaves question node
IsToldAs leaves question (old.Same status.NoMemory) text = Unit {0}
IsToldAs leaves question _ text = ⊥

-- The archive wasn't read: a device call failed, or it has a bad frame, of which this is the first, or memory was refused.
pub record IsUnread (before : Moment) (judged : OldStatus) : Type 0 where
  pub fault : OldFault
  pub is : (node : Node) → judged ≡ status_of_archive fault node
  pub cause : IsUnopened before fault

-- it was read, and its leaves answer so
pub record IsToldOf (before : Moment) (question : OldQuestion) (text : List ℕ) (judged : OldStatus) : Type 0 where
  pub leaves : List Leaf
  pub end : ℕ
  pub archive : IsArchiveOn before leaves end
  pub told : IsToldAs leaves question judged text

-- by what a question to an archive is judged
abbrev pub IsJudgedBy : Moment → OldQuestion → List ℕ → OldStatus → Type 0
IsJudgedBy before question text judged = IsUnread before judged ⊎ IsToldOf before question text judged
