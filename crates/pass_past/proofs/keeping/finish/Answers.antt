use Rattle.pass_past.proofs.Goings.{settle_keeps, settle_stops}
use Rattle.pass_past.proofs.keeping.finish.Goals as goal

pub returns-in-Ok-clause-kept : goal.returns-in-Ok-clause-kept
returns-in-Ok-clause-kept g c = λ first done h. settle_keeps g.A.Disk.view first done c.args.old.now c.settle.new.self c.in-Ok.field-0 h c.in-Ok.ensures.moved

pub returns-in-Err-clause-stopped : goal.returns-in-Err-clause-stopped
returns-in-Err-clause-stopped g c = λ first done h.
    let e = c.in-Err.ensures in
    settle_stops g.A.Disk.view first done c.args.old.now c.settle.new.self c.in-Err.fault h e.moved (e.unbroken h.healthy)
