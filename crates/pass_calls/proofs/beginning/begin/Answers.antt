use Rattle.std.proofs.Common.{ap, subst, sym, ◌∙◌}
use Rattle.pass_plain.specs.Places.{call_places}
use Rattle.pass_book.specs.Tokens.{BookState}
use Rattle.pass_hold.specs.Callers.{CallerState}
use Rattle.pass_hold.specs.Places.{HasRoom}
use Rattle.pass_proc.specs.Procs.{ProcView}
use Rattle.pass_proc.proofs.Steps.{frees, number_fits}
use Rattle.pass_answer.proofs.Between.{full_ends, looked_on}
use Rattle.pass_answer.specs.declared.answer.CallEnd.{CallEnd}
use Rattle.pass_calls.specs.Beginnings.{TellsOfPlaces}
use Rattle.pass_calls.proofs.beginning.begin.Goals as goal

pub room-requires : goal.room-requires
room-requires g c = let i = c.proc.inside in record { new = frees g.J.Whose.book.session i.process i.number i.caller c.proc.invariant.0 }

pub invariant_of-proc : goal.invariant_of-proc
invariant_of-proc g c =
    let i = c.proc.inside in
    let e = c.in-Err.ensures in
    looked_on g.J.Whose.book.session i.process i.number i.caller i.way c.proc.invariant c.room.new.self e.caller e.looked e.few

pub overflow_add-result : goal.overflow_add-result
overflow_add-result g c = let i = c.proc.inside in number_fits g.J.Whose.book.session i.process i.number i.caller c.proc.invariant.0

pub returns-in-Err-clause-full : goal.returns-in-Err-clause-full
returns-in-Err-clause-full g c = λ r needs new.
    let i = c.proc.inside in
    let e = c.in-Err.ensures in
    full_ends g.J.Whose.book.session i.process i.number i.caller i.way c.proc.invariant c.room.new.self e.caller e.looked g.J.Whose.places c.args.proc.now c.proc.view_is
    r 3 c.in-Err.full new (sym needs) e.full c.from.result c.from.ensures

pub returns-in-Err-clause-only : goal.returns-in-Err-clause-only
returns-in-Err-clause-only g c = subst (λ (end : CallEnd). TellsOfPlaces end) (sym c.from.ensures) tt

pub returns-in-Err-clause-whole : goal.returns-in-Err-clause-whole
returns-in-Err-clause-whole g c = let e = c.in-Err.ensures in e.whole ∙ sym (ap (λ (b : BookState). b.history) e.shelf)

pub returns-clause-places : goal.returns-clause-places
returns-clause-places g c =
    let i = c.proc.inside in
    let e = c.in_default.ensures in
    let held = c.held.ensures.call ∙ ap (λ who. call_places i.caller.seen who) c.proc.invariant.0.of_who in
    subst (λ (v : ProcView). HasRoom c.room.new.shelf (call_places v.seen v.who) 3) c.proc.view_is
    (subst (λ h. HasRoom c.room.new.shelf h 3) held (subst (λ (d : CallerState). HasRoom c.room.new.shelf d.held 3) e.same e.room))
