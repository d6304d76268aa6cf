use Rattle.std.proofs.Common.{◌∙◌, refl, sym, subst}
use Rattle.pass_plain.specs.Calls.{name_of}
use Rattle.pass_plain.specs.Places.{kept_by}
use Rattle.pass_hold.specs.Callings.{IsIdle}
use Rattle.pass_hold.specs.Entering.{MayEnter}
use Rattle.pass_registry.specs.Desks.{on_registry}
use Rattle.pass_proc.specs.Views.{ProcessView}
use Rattle.pass_answer.specs.Answers.{HasMoved}
use Rattle.pass_answer.specs.declared.answer.Moved.TheVariants as moved
use Rattle.pass_calls.specs.Grants.{first_of, request_of, ask_of_grant}
use Rattle.pass_calls.proofs.Frame.{answers, asks, has_room, once, opened, over, replies, rests, twice}
use Rattle.pass_calls.proofs.GrantSteps.{first_may, faulted, faulted_idle, second_may, given, given_idle, grant_needs, new_grant}
use Rattle.pass_calls.proofs.granting.granted.Goals as goal

pub returns-in_err-number-clause-call : goal.returns-in_err-number-clause-call
returns-in_err-number-clause-call g c =
    let S = g.J.Whose.book.session in let a = c.args in let x = a.grant in
    over S g.J.Whose.places a.proc.now c.begin.new.proc (request_of x) c.from_residual.result c.in_err-number.field-0.0 c.from_residual.ensures.1 (c.in_err-number.ensures.full (request_of x) (sym (grant_needs x)) (new_grant x a.proc.now.way))

pub ask_registry-requires : goal.ask_registry-requires
ask_registry-requires g c =
    let S = g.J.Whose.book.session in let a = c.args in let q = c.requires in let n = c.in_ok-number.number in let i = c.proc.inside in let p = i.process in
    let o = opened S i.process i.number i.caller i.way c.proc.invariant.0 a.proc.now (c.proc.view_is ∙ c.in_ok-number.ensures.same) n c.in_ok-number.ensures.number in
    let x = a.grant in let free = asks o (ask_of_grant x) ∙ q.free in
    record {
      ready = q.ready;
      room = q.room;
      place = has_room o c.held.ensures.call c.begin.new.shelf c.in_ok-number.ensures.places;
      who = o.who ∙ sym c.pnode-who.ensures;
      entry = λ reply. subst (λ who. MayEnter i.caller.seen (on_registry who n (name_of (request_of x)) (first_of x) reply) (kept_by reply 2)) (sym c.pnode-who.ensures) (first_may S i.caller.seen p.who n p.state x o.idle o.some free q.within reply);
    }

pub invariant_of-proc : goal.invariant_of-proc
invariant_of-proc g c =
    let S = g.J.Whose.book.session in let a = c.args in let q = c.requires in let n = c.in_ok-number.number in let i = c.proc.inside in let p = i.process in
    let o = opened S i.process i.number i.caller i.way c.proc.invariant.0 a.proc.now (c.proc.view_is ∙ c.in_ok-number.ensures.same) n c.in_ok-number.ensures.number in
    let x = a.grant in let r = a.registry.now in let free = asks o (ask_of_grant x) ∙ q.free in let f = c.ask_registry in
    (rests o p f.new.caller refl (once i.caller f.new.caller _ f.ensures.entry.caller) (faulted_idle S i.caller.seen p.who n p.state x o.idle o.some free q.within r.seen f.new.caller.seen c.pnode-who.result c.pnode-who.ensures c.in-Err.fault c.in-Err.ensures.entry.entered) f.ensures.entry.few, tt)

pub returns-in-Err-clause-call : goal.returns-in-Err-clause-call
returns-in-Err-clause-call g c =
    let S = g.J.Whose.book.session in let a = c.args in let q = c.requires in let n = c.in_ok-number.number in let i = c.proc.inside in let p = i.process in
    let o = opened S i.process i.number i.caller i.way c.proc.invariant.0 a.proc.now (c.proc.view_is ∙ c.in_ok-number.ensures.same) n c.in_ok-number.ensures.number in
    let x = a.grant in let r = a.registry.now in let free = asks o (ask_of_grant x) ∙ q.free in let f = c.ask_registry in
    replies o p f.new.caller refl g.J.Whose.places (request_of x) (new_grant x a.proc.now.way) c.in-Err.fault (faulted S i.caller.seen p.who n p.state x o.idle o.some free q.within r.seen f.new.caller.seen c.pnode-who.result c.pnode-who.ensures c.in-Err.fault c.in-Err.ensures.entry.entered)

pub attach_object-requires-clause-entry : goal.attach_object-requires-clause-entry
attach_object-requires-clause-entry g c =
    let S = g.J.Whose.book.session in let a = c.args in let q = c.requires in let n = c.in_ok-number.number in let i = c.proc.inside in let p = i.process in
    let o = opened S i.process i.number i.caller i.way c.proc.invariant.0 a.proc.now (c.proc.view_is ∙ c.in_ok-number.ensures.same) n c.in_ok-number.ensures.number in
    let x = a.grant in let r = a.registry.now in let free = asks o (ask_of_grant x) ∙ q.free in let f = c.ask_registry in
    second_may S i.caller.seen p.who n p.state x o.idle o.some free q.within r.seen f.new.caller.seen c.pnode-who.result c.pnode-who.ensures c.in-Ok.pnode c.in-Ok.ensures.entry.entered
    r.seen f.new.registry.seen c.in-Ok.ensures.granted c.attach-attach.result c.attach-attach.ensures

pub invariant_of-proc-in-Ok : goal.invariant_of-proc-in-Ok
invariant_of-proc-in-Ok g c =
    let S = g.J.Whose.book.session in let a = c.args in let q = c.requires in let n = c.in_ok-number.number in let i = c.proc.inside in let p = i.process in
    let o = opened S i.process i.number i.caller i.way c.proc.invariant.0 a.proc.now (c.proc.view_is ∙ c.in_ok-number.ensures.same) n c.in_ok-number.ensures.number in
    let x = a.grant in let r = a.registry.now in let free = asks o (ask_of_grant x) ∙ q.free in let f = c.ask_registry in let w = c.attach_object in let e = w.new.caller in (
      rests o w.new.process e (λ k. (w.ensures.state k).who) (twice i.caller f.new.caller e _ 0 f.ensures.entry.caller w.ensures.entry.caller)
          (subst (λ (v : ProcessView). IsIdle S e.seen v.who n v.state) (sym w.ensures.state) (given_idle S i.caller.seen p.who n p.state x o.idle o.some free q.within r.seen f.new.caller.seen c.pnode-who.result c.pnode-who.ensures c.in-Ok.pnode c.in-Ok.ensures.entry.entered
          r.seen f.new.registry.seen c.in-Ok.ensures.granted c.attach-attach.result c.attach-attach.ensures p.seen e.seen w.ensures.entry.entered))
          w.ensures.entry.few,
      tt,
    )

pub returns-in-Ok-clause-call : goal.returns-in-Ok-clause-call
returns-in-Ok-clause-call g c =
    let S = g.J.Whose.book.session in let a = c.args in let q = c.requires in let n = c.in_ok-number.number in let i = c.proc.inside in let p = i.process in
    let o = opened S i.process i.number i.caller i.way c.proc.invariant.0 a.proc.now (c.proc.view_is ∙ c.in_ok-number.ensures.same) n c.in_ok-number.ensures.number in
    let x = a.grant in let r = a.registry.now in let free = asks o (ask_of_grant x) ∙ q.free in let f = c.ask_registry in let w = c.attach_object in let e = w.new.caller in
    answers o w.new.process e (λ k. (w.ensures.state k).who) g.J.Whose.places (request_of x) (new_grant x a.proc.now.way) (moved.Made c.in-Ok.pnode)
    (subst (λ (v : ProcessView). HasMoved S p.who i.caller.seen e.seen v.state (request_of x) (moved.Made c.in-Ok.pnode)) (sym w.ensures.state)
    (given S i.caller.seen p.who n p.state x o.idle o.some free q.within r.seen f.new.caller.seen c.pnode-who.result c.pnode-who.ensures c.in-Ok.pnode c.in-Ok.ensures.entry.entered
    r.seen f.new.registry.seen c.in-Ok.ensures.granted c.attach-attach.result c.attach-attach.ensures p.seen e.seen w.ensures.entry.entered))
