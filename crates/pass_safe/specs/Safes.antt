-- What contracts see of a vault under its lock (this project's own rule).
use Rattle.std.specs.Prelude.{◌≡◌, ◌⊎◌, ℕ, ◌<◌, ◌≤◌, ◌^◌, Bool, Option, Some, None, Result, Ok, Err, length}
use Rattle.pass_outside.specs.Moments.{Moment, IsAtEnd}
use Rattle.pass_plain.specs.Sessions.{opening_version}
use Rattle.pass_book.specs.Syncs.{durable}
use Rattle.pass_book.specs.Tokens.{BookId}
use Rattle.pass_keep.specs.Keepers.{GoesOn}
use Rattle.pass_vault.specs.Rooms.{most_entries}
use Rattle.pass_vault.specs.Vaulted.{Vaulted}
use Rattle.pass_safe.specs.Grounds.{Ground, HasGoneOn, ground_of}
use Rattle.pass_safe.specs.declared.fault.Lost.{Lost}
use Rattle.pass_safe.specs.declared.fault.SafeFault.{SafeFault}
use Rattle.pass_safe.specs.declared.fault.SafeFault.TheVariants.{DiskFault, NoMemory}

-- the vault, and the counts of the fault after which it is used no more
pub record SafeView (D : Type 0) : Type 0 where
  pub vault : Vaulted D
  pub lost : Option Lost

-- A device call failed, the disk's count of faults was found to be that, and no call has failed since. It had risen since the vault was
-- opened, or a count stands at its end.
pub record IsLost (m : Moment) (opened : ℕ) (l : Lost) : Type 0 where
  pub first : l.opened ≡ opened
  pub rises : l.opened ≤ l.found
  pub last : l.found ≡ m.faults
  pub above : (l.opened < l.found) ⊎ IsAtEnd m

-- Before a fault the count of faults is the one of the opening, and all is durable that the vault has seen.
abbrev pub Stands : {D : Type 0} → (D → Moment) → Vaulted D → Option Lost → Type 0
Stands view v None = ((view v.disk).faults ≡ v.opened) × (durable v.syncs ≡ length v.seen)
Stands view v (Some l) = IsLost (view v.disk) v.opened l

-- What the lock keeps between two calls: the vault was opened as its store says, over a disk that has gone on since. The session's entries are
-- few enough, and its objects' versions low enough, for the log to tell them.
pub record IsSafe {D : Type 0} (book : BookId) (laid : Ground) (tells : Bool) (view : D → Moment) (v : Vaulted D) (lost : Option Lost) : Type 0 where
  pub of_book : v.book ≡ book
  pub opened_as : ground_of v ≡ laid
  pub gone_on : HasGoneOn tells laid.opened (view v.disk)
  pub low : (object : ℕ) → opening_version book.session.start object ≤ 2 ^ 35
  pub few : length v.seen ≤ most_entries
  pub stands : Stands view v lost

-- the fault after which the vault is used no more
abbrev pub lost_of : SafeFault → Option Lost
lost_of (DiskFault opened now) = Some (record { opened = opened; found = now })
lost_of NoMemory = None

abbrev pub lost_in : {T : Type 0} → Result T SafeFault → Option Lost
lost_in (Ok x) = None
lost_in (Err f) = lost_of f

-- the vault is lost, and answers this fault
pub record IsLostBy {D : Type 0} (view : D → Moment) (s : SafeView D) (f : SafeFault) : Type 0 where
  pub l : Lost
  pub has : s.lost ≡ Some l
  pub fault : f ≡ DiskFault l.opened l.found
  pub lost : IsLost (view s.vault.disk) s.vault.opened l

-- What a call on a vault under its lock leaves, by its answer. A vault that is lost isn't asked, and goes on answering its fault.
pub record Leaves {D T : Type 0} (view : D → Moment) (old new : SafeView D) (answer : Result T SafeFault) : Type 0 where
  pub fault : old.lost ≡ None → new.lost ≡ lost_in answer
  pub lost : (l : Lost) → old.lost ≡ Some l → (answer ≡ Err (DiskFault l.opened l.found)) × (new ≡ old)
  pub failed : (opened found : ℕ) → answer ≡ Err (DiskFault opened found) → IsLost (view new.vault.disk) old.vault.opened (record { opened = opened; found = found })
  pub goes_on : GoesOn (view old.vault.disk) (view new.vault.disk)

-- A device call has failed since the store was opened, and none behind it, as a disk was at some moment: the count of faults as the store was
-- opened, and the disk's then, which is above it unless a count of the disk stands at its end.
pub record HasFailed {D : Type 0} (view : D → Moment) (opened first now : ℕ) : Type 0 where
  pub disk : D
  pub lost : IsLost (view disk) opened (record { opened = first; found = now })

-- why the vault gave no answer: such a fault, or want of memory
abbrev pub IsFaultSince : {D : Type 0} → (D → Moment) → ℕ → SafeFault → Type 0
IsFaultSince view opened (DiskFault first now) = HasFailed view opened first now
IsFaultSince view opened NoMemory = Unit {0}
