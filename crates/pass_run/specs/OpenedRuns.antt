-- What a run hands out, whatever it came to. This project's own rule.
use Rattle.std.specs.Prelude.{ℕ, ◌≡◌, ◌≢◌, ◌⊎◌, ◌<◌, List, []}
use Rattle.pass_outside.specs.Moments.{Moment, IsAtEnd}
use Rattle.pass_recover.specs.declared.fault.OpenFault.{OpenFault}
use Rattle.pass_recover.specs.Faults.{LogHas}
use Rattle.pass_trace.specs.declared.trace.TraceLine.{TraceLine}
use Rattle.pass_run.specs.declared.ending.RunEnd.{RunEnd}
use Rattle.pass_status.specs.declared.status.Status.TheVariants as status
use Rattle.pass_run.specs.declared.order.Order.{Order}
use Rattle.pass_run.specs.declared.order.Order.TheVariants as orders
use Rattle.pass_run.specs.Orders.{HasReplayed}
use Rattle.pass_run.specs.Stored.{session_fault, IsStoreJudged, IsEnd, IsOfDisk, IsLater, IsRefusedOpening, IsHeldBack, IsOverStore, HasEnded, IsBackedBy}

-- the opening was refused, or no entry was made, or this is what was opened and recorded
abbrev pub IsHandedOut : {D : Type 0} → Moment → Moment → List TraceLine → RunEnd D → Type 0
IsHandedOut old new lines e =
    IsRefusedOpening old new e.status e.list.items e.start e.history.items e.syncs.items
    ⊎ (IsHeldBack old new lines e.status e.list.items e.start e.history.items e.syncs.items
    ⊎ IsOverStore old.calls old new lines e.list.items e.start e.history.items e.syncs.items)

-- what a run hands out that began at the moment `old` of its disk, without its report
pub record IsRunOver {D : Type 0} (view : D → Moment) (old : Moment) (lines : List TraceLine) (order : Order) (e : RunEnd D) : Type 0 where
  pub disk_fault : (opened now : ℕ) → e.status ≡ status.DiskFault opened now
      → (opened ≡ old.faults) × (now ≡ (view e.disk).faults) × ((opened < now) ⊎ IsAtEnd (view e.disk))
  pub no_fault : e.status ≢ status.NoMemory → (IsOfDisk e.status → ⊥) → (view e.disk).faults ≡ old.faults
  pub judged : e.status ≢ status.NoMemory → (IsOfDisk e.status → ⊥) → LogHas old (λ bytes. IsStoreJudged (session_fault bytes) e.status)
  pub bad_store : (fault : OpenFault) → e.status ≡ status.BadStore fault → IsRefusedOpening old (view e.disk) e.status e.list.items e.start e.history.items e.syncs.items
  pub recorded : IsHandedOut old (view e.disk) lines e
  pub backed : IsBackedBy e.history.items e.syncs.items
  -- the text would be its report
  pub ended : (text : List ℕ) × (IsEnd e.status → HasEnded old.calls old (view e.disk) lines e.list.items e.start e.history.items e.syncs.items e.status text)
  pub silent : e.report.items ≡ []
  pub replayed : order ≡ orders.Lines → HasReplayed old lines e.list.items e.start e.history.items e.syncs.items e.status
  pub later : IsLater old (view e.disk)

-- the same with its report
pub record IsReportedOver {D : Type 0} (view : D → Moment) (old : Moment) (lines : List TraceLine) (order : Order) (e : RunEnd D) : Type 0 where
  pub disk_fault : (opened now : ℕ) → e.status ≡ status.DiskFault opened now
      → (opened ≡ old.faults) × (now ≡ (view e.disk).faults) × ((opened < now) ⊎ IsAtEnd (view e.disk))
  pub no_fault : e.status ≢ status.NoMemory → (IsOfDisk e.status → ⊥) → (view e.disk).faults ≡ old.faults
  pub judged : e.status ≢ status.NoMemory → (IsOfDisk e.status → ⊥) → LogHas old (λ bytes. IsStoreJudged (session_fault bytes) e.status)
  pub bad_store : (fault : OpenFault) → e.status ≡ status.BadStore fault → IsRefusedOpening old (view e.disk) e.status e.list.items e.start e.history.items e.syncs.items
  pub recorded : IsHandedOut old (view e.disk) lines e
  pub backed : IsBackedBy e.history.items e.syncs.items
  pub ended : IsEnd e.status → HasEnded old.calls old (view e.disk) lines e.list.items e.start e.history.items e.syncs.items e.status e.report.items
  pub no_report : (IsEnd e.status → ⊥) → e.report.items ≡ []
  pub replayed : order ≡ orders.Lines → HasReplayed old lines e.list.items e.start e.history.items e.syncs.items e.status
  pub later : IsLater old (view e.disk)
