-- What an archive answers.
use Rattle.std.proofs.Common.{◌≡◌, ◌∙◌, ◌⊎◌, ℕ, List, inl, inr, refl, sym, ap, subst}
use Rattle.std.specs.Prelude.{◌≢◌, Result, Ok, Err, IsErrOf}
use Rattle.pass_entry.specs.declared.objects.Node.{Node}
use Rattle.pass_outside.specs.Moments.{Moment, IsDeviceWork}
use Rattle.pass_status.specs.declared.status.Status.TheVariants as status
use Rattle.pass_leaf.specs.declared.fault.OldFault.{OldFault}
use Rattle.pass_leaf.specs.declared.fault.OldFault.TheVariants as faults
use Rattle.pass_leaf.specs.Leaves.{Leaf}
use Rattle.pass_leaf.specs.Archives.{IsUnopened}
use Rattle.pass_leaf.proofs.Answering.{work_as}
use Rattle.pass_old.specs.declared.status.OldStatus.{OldStatus}
use Rattle.pass_old.specs.declared.status.OldStatus.TheVariants as old_status
use Rattle.pass_old.specs.declared.words.OldQuestion.{OldQuestion}
use Rattle.pass_old.specs.Questions.{IsToldBy, IsLacking, IsToldAs}
use Rattle.pass_old.specs.Statuses.{status_of_archive}

pub told_done : (leaves : List Leaf) (q : OldQuestion) (s : OldStatus) (text t : List ℕ) → s ≡ old_status.Same status.Done → text ≡ t → IsToldBy leaves q t → IsToldAs leaves q s text
told_done leaves q s text t done same is =
    subst (λ (x : OldStatus). IsToldAs leaves q x text) (sym done) (subst (λ (l : List ℕ). IsToldBy leaves q l) (sym same) is)

pub told_starved : (leaves : List Leaf) (q : OldQuestion) (s : OldStatus) (text : List ℕ) → s ≡ old_status.Same status.NoMemory → IsToldAs leaves q s text
told_starved leaves q s text is = subst (λ (x : OldStatus). IsToldAs leaves q x text) (sym is) tt

pub told_refused : (leaves : List Leaf) (q : OldQuestion) (node : Node) (s : OldStatus) (text : List ℕ) (fault : OldFault) → s ≡ status_of_archive fault node → (fault ≡ faults.NoVersion) ⊎ (fault ≡ faults.NoMemory)
    → (fault ≡ faults.NoVersion → IsLacking leaves q node) → IsToldAs leaves q s text
told_refused leaves q node s text fault is (inl none) lacks =
    subst (λ (x : OldStatus). IsToldAs leaves q x text) (sym (is ∙ ap (λ (f : OldFault). status_of_archive f node) none)) (lacks none)
told_refused leaves q node s text fault is (inr starved) lacks =
    subst (λ (x : OldStatus). IsToldAs leaves q x text) (sym (is ∙ ap (λ (f : OldFault). status_of_archive f node) starved)) tt

-- a question to an archive that was read isn't refused by its disk, nor by the sink, nor for a run
pub told_not : (leaves : List Leaf) (q : OldQuestion) (s : OldStatus) (text : List ℕ) → IsToldAs leaves q s text → (s ≢ old_status.ArchiveFault) × (s ≢ old_status.Same status.WriteFault) × (s ≢ old_status.Unlike)
told_not leaves q s text is = (
  λ e. subst (λ (x : OldStatus). IsToldAs leaves q x text) e is,
  λ e. subst (λ (x : OldStatus). IsToldAs leaves q x text) e is,
  λ e. subst (λ (x : OldStatus). IsToldAs leaves q x text) e is,
)

-- a failed device call is told, and nothing else is
pub fault_told : (m : Moment) (e : OldFault) (node : Node) → IsUnopened m e → (e ≡ faults.DiskFault → status_of_archive e node ≡ old_status.ArchiveFault) × (status_of_archive e node ≡ old_status.ArchiveFault → e ≡ faults.DiskFault)
fault_told m faults.DiskFault node cause = (λ is. refl, λ is. refl)
fault_told m (faults.BadFrame at) node cause = (λ is. absurd (cc), λ is. absurd (cc))
fault_told m faults.NoMemory node cause = (λ is. absurd (cc), λ is. absurd (cc))
fault_told m (faults.Broken opened now) node cause = absurd cause
fault_told m faults.NoVersion node cause = absurd cause

pub archive_never : (e : OldFault) (node : Node) → status_of_archive e node ≡ old_status.Unlike → ⊥
archive_never faults.DiskFault node is = cc
archive_never (faults.BadFrame at) node is = cc
archive_never faults.NoMemory node is = cc
archive_never (faults.Broken opened now) node is = cc
archive_never faults.NoVersion node is = cc

pub work_told : {T : Type 0} (old new : Moment) (x : T) (s : OldStatus) → s ≢ old_status.ArchiveFault → IsDeviceWork old new (IsErrOf (Ok x) faults.DiskFault) → IsDeviceWork old new (s ≡ old_status.ArchiveFault)
work_told {T} old new x s other w = work_as old new (IsErrOf (Ok x) faults.DiskFault) (s ≡ old_status.ArchiveFault) (λ e. absurd (other e)) (λ e. absurd (cc e)) w

abbrev as_err : {T : Type 0} → OldFault → Result T OldFault
as_err x = Err x

pub work_untold : {T : Type 0} (old new : Moment) (e : OldFault) (node : Node) (s : OldStatus) → IsUnopened old e → s ≡ status_of_archive e node → IsDeviceWork old new (IsErrOf {T = T} (Err e) faults.DiskFault) → IsDeviceWork old new (s ≡ old_status.ArchiveFault)
work_untold {T} old new e node s cause is w =
    let f = fault_told old e node cause in
    work_as old new (IsErrOf {T = T} (Err e) faults.DiskFault) (s ≡ old_status.ArchiveFault) (λ x. ap (as_err {T = T}) (f.1 (sym is ∙ x))) (λ h. is ∙ f.0 (cc h)) w
