-- What the answer tells of a store that was settled and closed.
use Rattle.std.proofs.Common.{◌≡◌, ℕ, refl, subst, sym}
use Rattle.std.specs.Prelude.{IfErr, IfOk, OnOk, Result, Ok, Err}
use Rattle.pass_outside.specs.Moments.{Moment}
use Rattle.pass_vault.specs.declared.vault.Receipt.{Receipt}
use Rattle.pass_answer.specs.declared.answer.CallEnd.{CallEnd}
use Rattle.pass_safe.specs.Safes.{IsLost}
use Rattle.pass_safe.specs.declared.fault.SafeFault.{SafeFault}
use Rattle.pass_safe.specs.declared.fault.SafeFault.TheVariants.{DiskFault, NoMemory}
use Rattle.pass_kept.specs.Stops.{answer_of}
use Rattle.pass_store.specs.Closings.{IsUnsettled}

-- what a settled store has, its answer tells of
pub settled_as : (Ends Has : Receipt → Type 0) (Clean Written : Type 0) (settled : Result Receipt SafeFault) (answer : Result Receipt CallEnd) → answer ≡ answer_of settled
    → ((r : Receipt) → Ends r → Written → Clean → Has r) → IfOk settled Ends → OnOk settled Clean → OnOk settled Written → IfOk answer Has
settled_as Ends Has Clean Written (Ok r) answer is tells ends clean written = subst (λ (a : Result Receipt CallEnd). IfOk a Has) (sym is) (tells r ends written clean)
settled_as Ends Has Clean Written (Err e) answer is tells ends clean written = subst (λ (a : Result Receipt CallEnd). IfOk a Has) (sym is) (tt {0})

pub healthy_as : (Healthy : Type 0) (settled : Result Receipt SafeFault) (answer : Result Receipt CallEnd) → answer ≡ answer_of settled → OnOk settled Healthy → OnOk answer Healthy
healthy_as Healthy (Ok r) answer is healthy = subst (λ (a : Result Receipt CallEnd). OnOk a Healthy) (sym is) healthy
healthy_as Healthy (Err e) answer is healthy = subst (λ (a : Result Receipt CallEnd). OnOk a Healthy) (sym is) (tt {0})

-- any other answer has its cause
pub unsettled_as : (opened : ℕ) (m : Moment) (settled : Result Receipt SafeFault) (answer : Result Receipt CallEnd) → answer ≡ answer_of settled
    → ((first found : ℕ) → settled ≡ Err (DiskFault first found) → IsLost m opened (record { opened = first; found = found })) → IfErr answer (IsUnsettled opened m)
unsettled_as opened m (Ok r) answer is failed = subst (λ (a : Result Receipt CallEnd). IfErr a (IsUnsettled opened m)) (sym is) (tt {0})
unsettled_as opened m (Err (DiskFault first found)) answer is failed = subst (λ (a : Result Receipt CallEnd). IfErr a (IsUnsettled opened m)) (sym is) (failed first found refl)
unsettled_as opened m (Err NoMemory) answer is failed = subst (λ (a : Result Receipt CallEnd). IfErr a (IsUnsettled opened m)) (sym is) (tt {0})
