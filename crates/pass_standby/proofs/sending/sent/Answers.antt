use Rattle.std.proofs.Common.{◌≤◌, ◌^◌, List, ℕ, length, ap, subst, arith}
use Rattle.pass_standby.specs.Sending.{HoldsLogged}
use Rattle.pass_standby.proofs.Withheld.{bad_none}
use Rattle.pass_standby.proofs.sending.sent.Goals as goal

pub fault_in-requires : goal.fault_in-requires
fault_in-requires c =
    let fits : length c.deref.result.now ≤ 2 ^ 39 = omega (arith, c.requires, ap length c.deref.ensures.value) in
    subst (λ (l : List ℕ). HoldsLogged l → ⊥) c.deref.ensures.value
    (bad_none c.deref.result.now c.in-Err-BadLog.field-0 c.in-Err-BadLog.field-0-0 c.in-Err-BadLog.field-0-is fits c.in-Err-BadLog.ensures.fault)
