use Rattle.std.proofs.Common.{subst}
use Rattle.pass_safe.specs.Safes.{Leaves, SafeView}
use Rattle.pass_safe.proofs.settling.settle_shared.Goals as goal

pub returns-clause-safe : goal.returns-clause-safe
returns-clause-safe g c =
    let new = c.settle.new.self in
    let e = c.settle.ensures in
    let left : Leaves g.D.Disk.view c.show-file.new.self new c.settle.result.1 = record { fault = e.fault; lost = λ l has. ((e.lost l has).0, (e.lost l has).1); failed = e.failed; goes_on = e.goes_on } in
    subst (λ (s : SafeView _). Leaves g.D.Disk.view s new c.settle.result.1) c.show-file.ensures.safe left
