use Rattle.std.proofs.Common.{◌≡◌, arith}
use Rattle.pass_trace.proofs.Table.{IsTable-none}
use Rattle.pass_trace.proofs.earlier.Earlier.new.Goals as goal

pub invariant_of-result : goal.invariant_of-result
invariant_of-result c =
    let last : c.last_process.result ≡ 65536 = c.last_process.ensures.value in
    let len = c.in_ok-parents.ensures.len in
    rw c.new.ensures.items (IsTable-none _ (omega (arith, last, len)) c.in_ok-parents.ensures.zero)
