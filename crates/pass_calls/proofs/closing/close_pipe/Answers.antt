use Rattle.std.proofs.Common.{◌∙◌, refl, sym, subst, ap}
use Rattle.std.specs.Option.{option_map_or}
use Rattle.pass_entry.specs.declared.entry.Ask.TheVariants as ask
use Rattle.pass_entry.specs.declared.objects.Descriptor.{Descriptor}
use Rattle.pass_plain.specs.Calls.{descriptor_at, end_of, no_descriptor}
use Rattle.pass_plain.specs.declared.request.Request.TheVariants as requests
use Rattle.pass_hold.specs.Callings.{IsIdle}
use Rattle.pass_proc.specs.Views.{ProcessView}
use Rattle.pass_answer.specs.Answers.{HasMoved}
use Rattle.pass_answer.specs.declared.answer.Moved.TheVariants as moved
use Rattle.pass_calls.proofs.Frame.{answers, asks, has_room, holds, opened, over, rests, twice}
use Rattle.pass_calls.proofs.LeftPipe.{held_at, detach_may, leave_may, closed, closed_idle}
use Rattle.pass_calls.proofs.closing.close_pipe.Goals as goal

pub returns-in_err-number-clause-call : goal.returns-in_err-number-clause-call
returns-in_err-number-clause-call g c =
    let S = g.J.Whose.book.session in let a = c.args in
    over S g.J.Whose.places a.proc.now c.begin.new.proc (requests.CloseFd a.fd) c.from_residual.result c.in_err-number.field-0.0 c.from_residual.ensures.1 (c.in_err-number.ensures.full (requests.CloseFd a.fd) refl refl)

pub detach-descriptor-requires : goal.detach-descriptor-requires
detach-descriptor-requires g c =
    let S = g.J.Whose.book.session in let a = c.args in let q = c.requires in let n = c.in_ok-number.number in let i = c.proc.inside in let p = i.process in
    let o = opened S i.process i.number i.caller i.way c.proc.invariant.0 a.proc.now (c.proc.view_is ∙ c.in_ok-number.ensures.same) n c.in_ok-number.ensures.number in
    let free = asks o (ask.Held a.fd) ∙ q.free in
    let its = q.object (descriptor_at p.state a.fd) (sym (holds o a.fd) ∙ held_at p.state a.fd free) in
    record {
      held = free;
      place = has_room o c.held.ensures.call c.begin.new.shelf c.in_ok-number.ensures.places;
      who = o.who;
      entry = detach_may S i.caller.seen p.who n p.state a.fd o.idle o.some free q.fd its.0;
    }

pub leave-requires-clause-entry : goal.leave-requires-clause-entry
leave-requires-clause-entry g c =
    let S = g.J.Whose.book.session in let a = c.args in let q = c.requires in let n = c.in_ok-number.number in let i = c.proc.inside in let p = i.process in
    let o = opened S i.process i.number i.caller i.way c.proc.invariant.0 a.proc.now (c.proc.view_is ∙ c.in_ok-number.ensures.same) n c.in_ok-number.ensures.number in
    let x = a.pipe.now in let free = asks o (ask.Held a.fd) ∙ q.free in
    let its = q.object (descriptor_at p.state a.fd) (sym (holds o a.fd) ∙ held_at p.state a.fd free) in
    let s = c.detach-descriptor in let after = s.new.caller.seen in
    let side = c.end_of-end.ensures ∙ ap (λ (d : Descriptor). end_of d.mode) (sym (ap (λ at. option_map_or (λ d. d) at no_descriptor) s.ensures.answer)) in
    leave_may S i.caller.seen p.who n p.state a.fd o.idle o.some free q.fd its.0 p.seen after s.ensures.entry.entered
    x.what its.1 c.pnode-who.result c.pnode-who.ensures c.end_of-end.result side

pub invariant_of-proc : goal.invariant_of-proc
invariant_of-proc g c =
    let S = g.J.Whose.book.session in let a = c.args in let q = c.requires in let n = c.in_ok-number.number in let i = c.proc.inside in let p = i.process in
    let o = opened S i.process i.number i.caller i.way c.proc.invariant.0 a.proc.now (c.proc.view_is ∙ c.in_ok-number.ensures.same) n c.in_ok-number.ensures.number in
    let x = a.pipe.now in let free = asks o (ask.Held a.fd) ∙ q.free in
    let its = q.object (descriptor_at p.state a.fd) (sym (holds o a.fd) ∙ held_at p.state a.fd free) in
    let s = c.detach-descriptor in let after = s.new.caller.seen in let w = c.leave in let e = w.new.caller in
    let side = c.end_of-end.ensures ∙ ap (λ (d : Descriptor). end_of d.mode) (sym (ap (λ at. option_map_or (λ d. d) at no_descriptor) s.ensures.answer)) in (
      rests o s.new.self e (λ k. (s.ensures.state k).who) (twice i.caller s.new.caller e 2 0 s.ensures.entry.caller w.ensures.entry.caller)
          (subst (λ (v : ProcessView). IsIdle S e.seen v.who n v.state) (sym s.ensures.state) (closed_idle S i.caller.seen p.who n p.state a.fd o.idle o.some free q.fd its.0 p.seen after s.ensures.entry.entered
          x.what its.1 c.pnode-who.result c.pnode-who.ensures c.end_of-end.result side x.seen e.seen w.ensures.entry.entered))
          w.ensures.entry.few,
      tt,
    )

pub returns-clause-call : goal.returns-clause-call
returns-clause-call g c =
    let S = g.J.Whose.book.session in let a = c.args in let q = c.requires in let n = c.in_ok-number.number in let i = c.proc.inside in let p = i.process in
    let o = opened S i.process i.number i.caller i.way c.proc.invariant.0 a.proc.now (c.proc.view_is ∙ c.in_ok-number.ensures.same) n c.in_ok-number.ensures.number in
    let x = a.pipe.now in let free = asks o (ask.Held a.fd) ∙ q.free in
    let its = q.object (descriptor_at p.state a.fd) (sym (holds o a.fd) ∙ held_at p.state a.fd free) in
    let s = c.detach-descriptor in let after = s.new.caller.seen in let w = c.leave in let e = w.new.caller in
    let side = c.end_of-end.ensures ∙ ap (λ (d : Descriptor). end_of d.mode) (sym (ap (λ at. option_map_or (λ d. d) at no_descriptor) s.ensures.answer)) in
    answers o s.new.self e (λ k. (s.ensures.state k).who) g.J.Whose.places (requests.CloseFd a.fd) refl moved.Done
    (subst (λ (v : ProcessView). HasMoved S p.who i.caller.seen e.seen v.state (requests.CloseFd a.fd) moved.Done) (sym s.ensures.state)
    (closed S i.caller.seen p.who n p.state a.fd o.idle o.some free q.fd its.0 p.seen after s.ensures.entry.entered
    x.what its.1 c.pnode-who.result c.pnode-who.ensures c.end_of-end.result side x.seen e.seen w.ensures.entry.entered))
