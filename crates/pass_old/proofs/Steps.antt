-- The steps of a run over an archive.
use Rattle.std.proofs.Common.{refl, arith, ◌≡◌, ◌⊎◌, ◌∙◌, ℕ, List, inl, inr, sym, ap, subst}
use Rattle.std.specs.Prelude.{◌≢◌}
use Rattle.pass_outside.specs.Moments.{Moment, IsDeviceWork}
use Rattle.pass_recover.specs.declared.fault.OpenFault.{OpenFault}
use Rattle.pass_recover.specs.declared.fault.OpenFault.TheVariants as store
use Rattle.pass_recover.specs.Faults.{IsCauseOf}
use Rattle.pass_recover.specs.Later.{IsLater, IsLeftAlone}
use Rattle.pass_recover.specs.Syncs.{LeavesRead}
use Rattle.pass_trace.specs.TraceLines.{objects_of}
use Rattle.pass_trace.specs.Traces.{trace_of}
use Rattle.pass_trace.specs.declared.trace.TraceLine.{TraceLine}
use Rattle.pass_status.specs.declared.status.Status.{Status}
use Rattle.pass_status.specs.declared.status.Status.TheVariants as status
use Rattle.pass_status.specs.Statuses.{status_of_opening}
use Rattle.pass_run.specs.Stored.{HasBegun, IsHeldBack, IsOverStore, IsRefusedOpening}
use Rattle.pass_cli.specs.Answers.{Outcome, IsUnrecorded, IsRecorded}
use Rattle.pass_leaf.specs.Archives.{Archive, IsUnopened, LeavesThem}
use Rattle.pass_leaf.specs.declared.fault.OldFault.{OldFault}
use Rattle.pass_leaf.specs.declared.fault.OldFault.TheVariants as faults
use Rattle.pass_past.specs.Keepings.{IsStop}
use Rattle.pass_leaf.specs.Leaves.{Leaf}
use Rattle.pass_leaf.specs.Keeping.{FileVersion}
use Rattle.pass_leaf.specs.Open.{IsUnkept}
use Rattle.pass_old.specs.declared.status.OldStatus.{OldStatus}
use Rattle.pass_old.specs.declared.status.OldStatus.TheVariants as old_status
use Rattle.pass_old.specs.Runs.{IsUnopenedArchive, IsHandedOut, IsLost}

-- a status of which the opening of a store tells isn't one of the sink
pub opening_writes : (a b : ℕ) (f : OpenFault) (s : Status) → s ≡ status_of_opening a b f → old_status.Same s ≡ old_status.Same status.WriteFault → ⊥
opening_writes a b store.DiskFault s is same = let z : old_status.Same (status.DiskFault a b) ≡ old_status.Same status.WriteFault = ap (λ (x : Status). old_status.Same x) (sym is) ∙ same in cc
opening_writes a b store.NoMemory s is same = let z : old_status.Same status.NoMemory ≡ old_status.Same status.WriteFault = ap (λ (x : Status). old_status.Same x) (sym is) ∙ same in cc
opening_writes a b (store.BadFrame at) s is same = let z : old_status.Same (status.BadStore (store.BadFrame at)) ≡ old_status.Same status.WriteFault = ap (λ (x : Status). old_status.Same x) (sym is) ∙ same in cc
opening_writes a b (store.BadRecord place why) s is same = let z : old_status.Same (status.BadStore (store.BadRecord place why)) ≡ old_status.Same status.WriteFault = ap (λ (x : Status). old_status.Same x) (sym is) ∙ same in cc
opening_writes a b (store.Flaw place reason) s is same = let z : old_status.Same (status.BadStore (store.Flaw place reason)) ≡ old_status.Same status.WriteFault = ap (λ (x : Status). old_status.Same x) (sym is) ∙ same in cc

-- an archive that doesn't open was asked for no node
pub unopened_node : (m : Moment) (e : OldFault) → IsUnopened m e → e ≢ faults.NoVersion
unopened_node m faults.DiskFault cause is = cc
unopened_node m (faults.BadFrame at) cause is = cc
unopened_node m faults.NoMemory cause is = cc
unopened_node m (faults.Broken opened now) cause is = cc
unopened_node m faults.NoVersion cause is = cause

unkept_node : (leaves : List Leaf) (end : ℕ) (v : FileVersion) (e : OldFault) → IsUnkept leaves end v e → e ≢ faults.NoVersion
unkept_node leaves end v faults.DiskFault cause is = cc
unkept_node leaves end v (faults.BadFrame at) cause is = cc
unkept_node leaves end v faults.NoMemory cause is = cc
unkept_node leaves end v (faults.Broken opened now) cause is = cc
unkept_node leaves end v faults.NoVersion cause is = cause

-- nor was one that keeps no more
pub stop_node : (leaves : List Leaf) (end : ℕ) (rest : List FileVersion) (e : OldFault) → IsStop leaves end rest e → e ≢ faults.NoVersion
stop_node leaves end rest e (inl starved) is = let z : faults.NoMemory ≡ faults.NoVersion = sym starved ∙ is in cc
stop_node leaves end rest e (inr (v, more, same, above, unkept)) is = unkept_node leaves end v e unkept is

-- what is recorded, by the trace of the bytes
pub recorded_of : (old new : Moment) (bytes : List ℕ) (lines : List TraceLine) (out : Outcome) (ended : Status) → lines ≡ trace_of bytes
    → IsRefusedOpening old new ended out.list out.start out.history out.syncs
    ⊎ (IsHeldBack old new lines ended out.list out.start out.history out.syncs ⊎ IsOverStore old.calls old new lines out.list out.start out.history out.syncs)
    → IsUnrecorded old new bytes out ⊎ IsRecorded old new bytes out
recorded_of old new bytes lines out ended same (inl refused) = inl (refused.nothing, inl (record { alone = refused.alone; since = refused.since }))
recorded_of old new bytes lines out ended same (inr (inl held)) = inl (held.nothing, inr (subst (λ (ls : List TraceLine). HasBegun old new (objects_of ls)) same held.begun))
recorded_of old new bytes lines out ended same (inr (inr over)) = inr (subst (λ (ls : List TraceLine). IsOverStore old.calls old new ls out.list out.start out.history out.syncs) same over)

-- later moments

later_none : (m : Moment) → IsLater m m
later_none m = record { tells = refl; faults = omega arith; calls = omega arith }

pub later_at : {D : Type 0} (view : D → Moment) (old new : D) → new ≡ old → IsLater (view old) (view new)
later_at view old new same = subst (λ d. IsLater (view old) (view d)) (sym same) (later_none (view old))

-- a disk that is as it was is left alone
pub left_at : {D : Type 0} (view : D → Moment) (old new : D) → new ≡ old → IsLeftAlone (view old) (view new)
left_at view old new same = subst (λ d. IsLeftAlone (view old) (view d)) (sym same) (record { crash = λ c may. may; adds = record { later = omega arith; nothing_else = λ t c low left. inl left } })

pub later_work : (old new : Moment) (failed : Type 0) → IsDeviceWork old new failed → IsLater old new
later_work old new failed w = record { tells = w.tells; faults = w.rises; calls = w.later }

pub later_both : (old mid new : Moment) → IsLater old mid → IsLater mid new → IsLater old new
later_both old mid new one two = record { tells = two.tells ∙ one.tells; faults = omega (arith, one.faults, two.faults); calls = omega (arith, one.calls, two.calls) }

-- the same of equal parts

pub later_as : {D : Type 0} (view : D → Moment) (old mid new : D) → new ≡ mid → IsLater (view old) (view mid) → IsLater (view old) (view new)
later_as view old mid new same later = subst (λ d. IsLater (view old) (view d)) (sym same) later

pub unopened_as : {A : Type 0} (view : A → Moment) (archive mid archived : A) (fault : OldFault) → archived ≡ mid → IsUnopenedArchive (view archive) (view mid) fault → IsUnopenedArchive (view archive) (view archived) fault
unopened_as view archive mid archived fault same is = subst (λ a. IsUnopenedArchive (view archive) (view a) fault) (sym same) is

pub handed_out : {A : Type 0} (view : A → Moment) (last : Archive A) (archived : A) → archived ≡ last.disk → LeavesThem (view last.disk) last.opened last.leaves last.end → IsHandedOut view last archived
handed_out view last archived same leaves = record { disk = same; leaves = subst (λ a. LeavesThem (view a) last.opened last.leaves last.end) (sym same) leaves }

pub lost_as : {D A : Type 0} (view : D → Moment) (archive_view : A → Moment) (old mid new : D) (first : Archive A) (archived : A) (fault : OpenFault) (judged : OldStatus) → new ≡ mid
    → judged ≡ old_status.Same (status_of_opening (view old).faults (view mid).faults fault) → IsCauseOf (view old) (view mid) fault → IsLeftAlone (view old) (view mid) → LeavesRead (view old) (view mid)
    → IsHandedOut archive_view first archived → IsLost view archive_view old new first archived judged
lost_as view archive_view old mid new first archived fault judged same is cause alone since out =
    subst (λ d. IsLost view archive_view old d first archived judged) (sym same) (record { fault = fault; is = is; cause = cause; alone = alone; since = since; archive = out })
