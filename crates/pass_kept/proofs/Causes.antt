-- The causes of a call's end, where the vault gave no answer.
use Rattle.std.proofs.Common.{◌≡◌, ℕ, subst, sym}
use Rattle.pass_outside.specs.Moments.{Moment}
use Rattle.pass_answer.specs.declared.answer.CallEnd.{CallEnd}
use Rattle.pass_answer.specs.declared.answer.CallEnd.TheVariants as ends
use Rattle.pass_safe.specs.Syncings.{HasRisen, IsNoDiskFault, end_of}
use Rattle.pass_safe.specs.declared.fault.SafeFault.{SafeFault}
use Rattle.pass_safe.specs.declared.fault.SafeFault.TheVariants.{DiskFault, NoMemory}
use Rattle.pass_kept.specs.Stops.{HasCause, IsStopped}
use Rattle.pass_safe.specs.Safes.{IsFaultSince}

pub risen_of : {D : Type 0} (view : D → Moment) (opened : ℕ) (f : SafeFault) → IsFaultSince view opened f → HasRisen f
risen_of view opened (DiskFault first now) since = since.lost.rises
risen_of view opened NoMemory since = tt {0}

-- the end that a fault of the vault becomes has its cause
pub caused : {D : Type 0} (view : D → Moment) (opened : ℕ) (f : SafeFault) (answer : CallEnd) → IsFaultSince view opened f → answer ≡ end_of f → HasCause view opened answer
caused view opened (DiskFault first now) answer since is = subst (λ (e : CallEnd). HasCause view opened e) (sym is) since
caused view opened NoMemory answer since is = subst (λ (e : CallEnd). HasCause view opened e) (sym is) (tt {0})

-- any other end needs none
pub uncaused : {D : Type 0} (view : D → Moment) (opened : ℕ) (answer : CallEnd) → IsNoDiskFault answer → HasCause view opened answer
uncaused view opened (ends.Fault f) other = tt {0}
uncaused view opened ends.Again other = tt {0}
uncaused view opened (ends.DiskFault first now) other = absurd other
uncaused view opened (ends.Full left need) other = tt {0}
uncaused view opened ends.NoMemory other = tt {0}

-- a call stops by such a fault
pub stopped_by : {D : Type 0} (view : D → Moment) (opened : ℕ) (f : SafeFault) (answer : CallEnd) → IsFaultSince view opened f → answer ≡ end_of f → IsStopped view opened answer
stopped_by view opened (DiskFault first now) answer since is = subst (λ (e : CallEnd). IsStopped view opened e) (sym is) since
stopped_by view opened NoMemory answer since is = subst (λ (e : CallEnd). IsStopped view opened e) (sym is) (tt {0})
