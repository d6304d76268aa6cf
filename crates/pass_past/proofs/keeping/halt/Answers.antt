use Rattle.std.proofs.Common.{◌≡◌, Bool, true, false, IsTrue, ⊎_elim}
use Rattle.pass_past.proofs.Goings.{halt_stops, halt_fails}
use Rattle.pass_past.proofs.keeping.halt.Goals as goal

pub returns-then-is_of_device : goal.returns-then-is_of_device
returns-then-is_of_device g c = λ first versions h. ⊎_elim (λ failed. failed.1) (λ other. absurd (other.other (c.is_of_device.ensures.0 c.if-is_of_device.true))) h

apart : (b : Bool) → b ≡ false → IsTrue b → ⊥
apart true is told = cc is
apart false is told = cc told

pub returns-in-Ok : goal.returns-in-Ok
returns-in-Ok g c = λ first versions h. ⊎_elim (λ failed. absurd (apart c.is_of_device.result c.if-is_of_device.false (c.is_of_device.ensures.1 failed.0))) (λ other. halt_stops g.A.Disk.view first versions c.args.old.now c.settle.new.self c.args.fault c.in-Ok.field-0 other c.in-Ok.ensures.moved c.in-Ok.ensures.ends) h

pub returns-in-Err : goal.returns-in-Err
returns-in-Err g c = λ first versions h. ⊎_elim (λ failed. absurd (apart c.is_of_device.result c.if-is_of_device.false (c.is_of_device.ensures.1 failed.0)))
    (λ other. halt_fails g.A.Disk.view first versions c.args.old.now c.settle.new.self c.args.fault c.in-Err.failed other c.in-Err.ensures.moved (c.in-Err.ensures.unbroken other.keeping.healthy)) h
