use Rattle.std.proofs.Common.{IsTrue, refl}
use Rattle.pass_leaf.specs.declared.tail.Tail.{Tail}
use Rattle.pass_leaf.proofs.Ending.{ends_long, ends_short}
use Rattle.pass_leaf.proofs.tail.open_tail.Goals as goal

pub returns-then-not-found-clause-ends : goal.returns-then-not-found-clause-ends
returns-then-not-found-clause-ends g c =
    let found = c.args.found.now in
    let tail : Tail = record { end = found.end; opened = c.faults.result } in
    let not_short : IsTrue found.short → ⊥ = λ yes. cc (yes, c.if-not-found.true) in
    ends_long tail found (g.D.Disk.view c.args.disk.now) c.requires.found not_short refl c.faults.ensures c.requires.synced

pub returns-clause-ends : goal.returns-clause-ends
returns-clause-ends g c =
    let found = c.args.found.now in
    let tail : Tail = record { end = found.end; opened = c.faults-2.result } in
    let e = c.write_synced.ensures in
    ends_short tail found (g.D.Disk.view c.args.disk.now) (g.D.Disk.view c.write_synced.new.disk) c.requires.found c.if-not-found.false refl c.faults-2.ensures e.run.tells
    c.in_ok-write_synced.ensures.written c.in_ok-write_synced.ensures.durable
