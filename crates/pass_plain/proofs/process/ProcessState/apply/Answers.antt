use Rattle.std.proofs.Common.{ap}
use Rattle.pass_plain.proofs.Children.{set-insert, set-remove}
use Rattle.pass_plain.proofs.process.ProcessState.apply.Goals as goal

pub returns-in_ok-insert-in-Spawn-clause-ok : goal.returns-in_ok-insert-in-Spawn-clause-ok
returns-in_ok-insert-in-Spawn-clause-ok c = λ past gains.
    let added = set-insert c.self.inside.children c.insert.new.self c.in-Spawn.child c.in_ok-insert-in-Spawn.ensures.updates in
    rw (c.in-Spawn.is, ← c.self.view_is) (ap (λ children. record { ended = c.self.inside.ended; descriptors = c.self.inside.descriptors; last_read = c.self.inside.last_read.items; children = children }) added)

pub returns-in-Gather-clause-ok : goal.returns-in-Gather-clause-ok
returns-in-Gather-clause-ok c = λ past gains.
    let taken = set-remove c.self.inside.children c.remove-in-Gather.new.self c.in-Gather.child c.remove-in-Gather.ensures.updates in
    rw (c.in-Gather.is, ← c.self.view_is) (ap (λ children. record { ended = c.self.inside.ended; descriptors = c.self.inside.descriptors; last_read = c.self.inside.last_read.items; children = children }) taken)

pub returns-in-Release-clause-ok : goal.returns-in-Release-clause-ok
returns-in-Release-clause-ok c = λ past gains.
    let taken = set-remove c.self.inside.children c.remove-in-Release.new.self c.in-Release.child c.remove-in-Release.ensures.updates in
    rw (c.in-Release.is, ← c.self.view_is) (ap (λ children. record { ended = c.self.inside.ended; descriptors = c.self.inside.descriptors; last_read = c.self.inside.last_read.items; children = children }) taken)
