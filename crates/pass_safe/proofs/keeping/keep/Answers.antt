use Rattle.std.proofs.Common.{subst, sym}
use Rattle.pass_hold.specs.Callings.{HasLooked}
use Rattle.pass_proc.proofs.Steps.{number_fits, frees, still, way_looked}
use Rattle.pass_safe.specs.Syncings.{IsNoDiskFault}
use Rattle.pass_safe.proofs.Ends.{too_few_sync}
use Rattle.pass_safe.proofs.keeping.keep.Goals as goal

pub room-requires : goal.room-requires
room-requires g c = let i = c.proc.inside in record { new = frees g.J.Whose.book.session i.process i.number i.caller c.proc.invariant.0 }

pub overflow_add-number : goal.overflow_add-number
overflow_add-number g c = let i = c.proc.inside in number_fits g.J.Whose.book.session i.process i.number i.caller c.proc.invariant.0

pub invariant_of-proc : goal.invariant_of-proc
invariant_of-proc g c =
    let S = g.J.Whose.book.session in
    let i = c.proc.inside in
    let e = c.in-Err.ensures in (
      still S i.process i.number i.caller c.proc.invariant.0 c.room.new.self i.caller.held e.caller e.looked e.few,
      way_looked S i.process.who i.number i.caller.seen c.room.new.self.seen i.process.state i.way
          (subst (λ w. HasLooked S w i.caller.seen c.room.new.self.seen) c.proc.invariant.0.of_who e.looked) c.proc.invariant.1,
    )

pub returns-in-Err-clause-full : goal.returns-in-Err-clause-full
returns-in-Err-clause-full g c =
    let i = c.proc.inside in
    let e = c.in-Err.ensures in
    too_few_sync g.J.Whose.book.session g.J.Whose.places c.args.proc.now i.process i.number i.caller c.room.new.self i.way c.args.fd c.in-Err.full c.proc.invariant.0 c.proc.view_is e.caller e.looked e.full c.from.result c.from.ensures

pub returns-in-Err-clause-no_disk : goal.returns-in-Err-clause-no_disk
returns-in-Err-clause-no_disk g c = subst IsNoDiskFault (sym c.from.ensures) tt
