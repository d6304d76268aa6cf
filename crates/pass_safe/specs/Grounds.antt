-- What the vault of a store was opened with.
use Rattle.std.specs.Prelude.{ℕ, ◌≡◌, ◌≤◌, Bool, List, []}
use Rattle.pass_entry.specs.declared.record.Record.{Record}
use Rattle.pass_outside.specs.Moments.{Moment}
use Rattle.pass_vault.specs.Vaulted.{Vaulted}

-- The records that the log had and the bytes of the store area then, the session's ceiling, the count of device calls since which nothing
-- else was there, the count as the vault was opened, and the disk's count of faults then.
pub record Ground : Type 0 where
  pub before : List Record
  pub store : List ℕ
  pub ceiling : ℕ
  pub since : ℕ
  pub ready : ℕ
  pub opened : ℕ

abbrev pub ground_of : {D : Type 0} → Vaulted D → Ground
ground_of v = record { before = v.before; store = v.store; ceiling = v.ceiling; since = v.since; ready = v.ready; opened = v.opened }

abbrev pub no_ground : Ground
no_ground = record { before = []; store = []; ceiling = 0; since = 0; ready = 0; opened = 0 }

-- a later moment of the disk that a store was opened over: it tells what it told then, and has no fewer faults
pub record HasGoneOn (tells : Bool) (opened : ℕ) (m : Moment) : Type 0 where
  pub told : m.tells ≡ tells
  pub faults : opened ≤ m.faults
