-- Why a call ended that asked the vault. This project's own rule.
use Rattle.std.specs.Prelude.{ℕ, Result, Ok, Err}
use Rattle.pass_outside.specs.Moments.{Moment}
use Rattle.pass_vault.specs.declared.vault.Receipt.{Receipt}
use Rattle.pass_answer.specs.declared.answer.CallEnd.{CallEnd}
use Rattle.pass_answer.specs.declared.answer.CallEnd.TheVariants as ends
use Rattle.pass_safe.specs.Safes.{HasFailed}
use Rattle.pass_safe.specs.Syncings.{end_of}
use Rattle.pass_safe.specs.declared.fault.SafeFault.{SafeFault}

-- how settling went, as a call answers it
abbrev pub answer_of : Result Receipt SafeFault → Result Receipt CallEnd
answer_of (Ok r) = Ok r
answer_of (Err fault) = Err (end_of fault)

-- a call ended by want of memory, or by a fault of the disk with such counts
abbrev pub IsFaultWith : (ℕ → ℕ → Type 0) → CallEnd → Type 0
IsFaultWith counts (ends.DiskFault first now) = counts first now
IsFaultWith counts ends.NoMemory = Unit {0}
IsFaultWith counts _ = ⊥

-- a call ended by want of memory, or because a device call has failed since the store was opened
abbrev pub IsStopped : {D : Type 0} → (D → Moment) → ℕ → CallEnd → Type 0
IsStopped view opened answer = IsFaultWith (HasFailed view opened) answer

-- where a call ends by a fault of the disk, there was one
abbrev pub HasCause : {D : Type 0} → (D → Moment) → ℕ → CallEnd → Type 0
HasCause view opened (ends.DiskFault first now) = HasFailed view opened first now
HasCause view opened _ = Unit {0}
