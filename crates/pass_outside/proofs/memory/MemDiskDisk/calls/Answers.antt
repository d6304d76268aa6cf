use Rattle.pass_outside.specs.History.{beginning}
use Rattle.pass_outside.proofs.Steps.{now_only}
use Rattle.pass_outside.proofs.memory.MemDiskDisk.calls.Goals as goal

pub returns-clause-now : goal.returns-clause-now
returns-clause-now c =
    let d = c.args.self.now in
    now_only (beginning d.first) d.changes.items d.plan.calls d.ordered (λ i h. h)
