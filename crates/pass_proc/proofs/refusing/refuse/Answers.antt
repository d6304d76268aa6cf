use Rattle.std.proofs.Common.{ap, subst}
use Rattle.pass_entry.specs.declared.entry.Reply.TheVariants as answer
use Rattle.pass_hold.specs.Callers.{CallerState}
use Rattle.pass_hold.specs.Callings.{HasLooked}
use Rattle.pass_proc.specs.CallEnds.{HasReplied, HasTooFew}
use Rattle.pass_proc.specs.Procs.{ProcView}
use Rattle.pass_proc.proofs.Steps.{number_fits, frees, still, too_few, way_looked}
use Rattle.pass_proc.proofs.refusing.refuse.Goals as goal

pub room-requires : goal.room-requires
room-requires g c = let i = c.proc.inside in record { new = frees g.J.Whose.book.session i.process i.number i.caller c.proc.invariant.0 }

pub invariant_of-proc : goal.invariant_of-proc
invariant_of-proc g c =
    let S = g.J.Whose.book.session in
    let i = c.proc.inside in
    let e = c.in-Err.ensures in (
      still S i.process i.number i.caller c.proc.invariant.0 c.room.new.self i.caller.held e.caller e.looked e.few,
      way_looked S i.process.who i.number i.caller.seen c.room.new.self.seen i.process.state i.way
          (subst (λ w. HasLooked S w i.caller.seen c.room.new.self.seen) c.proc.invariant.0.of_who e.looked) c.proc.invariant.1,
    )

pub overflow_add-number : goal.overflow_add-number
overflow_add-number g c = let i = c.proc.inside in number_fits g.J.Whose.book.session i.process i.number i.caller c.proc.invariant.0

pub returns-in-Err-clause-full : goal.returns-in-Err-clause-full
returns-in-Err-clause-full g c =
    let S = g.J.Whose.book.session in
    let i = c.proc.inside in
    let e = c.in-Err.ensures in
    let f = too_few S i.process i.number i.caller c.proc.invariant.0 g.J.Whose.places 3 c.room.new.self c.in-Err.full e.looked e.full in (
      subst (λ (v : ProcView). HasTooFew S g.J.Whose.places v.who v.seen c.room.new.self.seen 3 c.in-Err.full) c.proc.view_is f,
      ap (λ (v : ProcView). v.number) c.proc.view_is,
      ap (λ (v : ProcView). v.way) c.proc.view_is,
    )

pub returns-clause-call : goal.returns-clause-call
returns-clause-call g c = λ r named asked within.
    let S = g.J.Whose.book.session in
    let f = answer.Fault c.args.fault in
    let i = c.proc.inside in
    let same = c.in_default.ensures.same in
    subst (λ (v : ProcView). HasReplied S v.who v.seen c.refuse_step.new.caller.seen r f) c.proc.view_is
    (subst (λ (d : CallerState). HasReplied S i.process.who d.seen c.refuse_step.new.caller.seen r f) same (c.refuse_step.ensures.call r named asked within))
