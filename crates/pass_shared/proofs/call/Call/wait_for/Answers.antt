use Rattle.std.proofs.Common.{ap, subst, sym, ◌∙◌}
use Rattle.std.specs.Prelude.{Err}
use Rattle.pass_entry.specs.declared.entry.Ask.TheVariants as ask
use Rattle.pass_plain.specs.Places.{need_of}
use Rattle.pass_answer.specs.Ready.{IsReadyIfFull}
use Rattle.pass_answer.specs.declared.answer.CallEnd.{CallEnd}
use Rattle.pass_answer.proofs.Ready.{refusal_ready}
use Rattle.pass_lives.specs.Waits.{request_of}
use Rattle.pass_lives.proofs.Waits.{asked, needed, no_way, ordinary}
use Rattle.pass_shared.proofs.call.Call.wait_for.Goals as goal

pub refused-requires-clause-refused : goal.refused-requires-clause-refused
refused-requires-clause-refused g c = (c.deny.ensures.fault c.in-Err.fault).0 c.in-Err.is

pub refused-requires-clause-some : goal.refused-requires-clause-some
refused-requires-clause-some g c =
    let a = c.args in
    record { request = request_of a.wait a.child; named = sym (c.call.ensures a.child); asked = asked a.wait a.child; within = (ordinary a.wait a.child).1 }

pub refused-requires-clause-need : goal.refused-requires-clause-need
refused-requires-clause-need g c = let a = c.args in ap need_of (c.call.ensures a.child) ∙ needed a.wait a.child

pub returns-in-Err-clause-call : goal.returns-in-Err-clause-call
returns-in-Err-clause-call g c =
    let a = c.args in
    c.refused.ensures.call (request_of a.wait a.child) (sym (c.call.ensures a.child)) (asked a.wait a.child) (ordinary a.wait a.child).1 (no_way a.wait a.child a.proc.now.way)

pub returns-in-Err-clause-ready : goal.returns-in-Err-clause-ready
returns-in-Err-clause-ready g c =
    let a = c.args in
    refusal_ready g.J.Whose.book.session a.proc.now c.refused.new.proc (request_of a.wait a.child) (ask.Child a.child) c.in-Err.fault (asked a.wait a.child)
    ((c.deny.ensures.fault c.in-Err.fault).0 c.in-Err.is) c.refused.result

pub returns-in-Living-clause-ready : goal.returns-in-Living-clause-ready
returns-in-Living-clause-ready g c =
    let a = c.args in
    subst (λ (e : CallEnd). IsReadyIfFull g.J.Whose.book.session a.proc.now c.wait_living.new.proc (request_of a.wait a.child) (Err e)) (sym c.wait_living.ensures.again) tt

pub returns-in-Living-clause-call : goal.returns-in-Living-clause-call
returns-in-Living-clause-call g c = c.wait_living.ensures.call c.args.wait
