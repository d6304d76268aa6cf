use Rattle.std.proofs.Common.{◌∙◌, refl, sym, subst}
use Rattle.pass_entry.specs.declared.entry.Act.TheVariants as act
use Rattle.pass_entry.specs.declared.entry.Ask.TheVariants as ask
use Rattle.pass_entry.specs.declared.entry.Reply.TheVariants as answer
use Rattle.pass_plain.specs.declared.request.Request.TheVariants as requests
use Rattle.pass_hold.specs.Callings.{IsIdle}
use Rattle.pass_proc.proofs.Steps.{low_fd}
use Rattle.pass_proc.specs.Views.{ProcessView}
use Rattle.pass_answer.specs.Answers.{HasMoved}
use Rattle.pass_answer.specs.declared.answer.Moved.TheVariants as moved
use Rattle.pass_calls.proofs.Frame.{answers, asks, has_room, holds, less_room, once, opened, over, rests}
use Rattle.pass_calls.proofs.SingleStep.{close_step, step_may, here_moved, here_idle}
use Rattle.pass_calls.proofs.closing.close.Goals as goal

pub refused-requires-clause-refused : goal.refused-requires-clause-refused
refused-requires-clause-refused g c =
    (c.in-Err.ensures.fault c.in-Err.fault).0 refl

pub refused-requires-clause-some : goal.refused-requires-clause-some
refused-requires-clause-some g c =
    let a = c.args in let q = c.requires in
    record { request = requests.CloseFd a.fd; named = refl; asked = refl; within = low_fd a.fd q.fd }

pub returns-in_err-number-clause-call : goal.returns-in_err-number-clause-call
returns-in_err-number-clause-call g c =
    let S = g.J.Whose.book.session in let a = c.args in
    over S g.J.Whose.places a.proc.now c.begin.new.proc (requests.CloseFd a.fd) c.from_residual.result c.in_err-number.field-0.0 c.from_residual.ensures.1 (c.in_err-number.ensures.full (requests.CloseFd a.fd) refl refl)

pub detach-requires : goal.detach-requires
detach-requires g c =
    let S = g.J.Whose.book.session in let a = c.args in let q = c.requires in let n = c.in_ok-number.number in let i = c.proc.inside in let p = i.process in
    let o = opened S i.process i.number i.caller i.way c.proc.invariant.0 a.proc.now (c.proc.view_is ∙ c.in_ok-number.ensures.same) n c.in_ok-number.ensures.number in
    let free = asks o (ask.Held a.fd) ∙ c.in_default.ensures.ok.0 refl in
    let only = close_step p.who p.state a.fd q.fd free (λ d at. q.object d (sym (holds o a.fd) ∙ at)) in
    record {
      held = free;
      place = less_room c.begin.new.shelf i.caller.held (has_room o c.held.ensures.call c.begin.new.shelf c.in_ok-number.ensures.places);
      who = o.who;
      entry = step_may S i.caller.seen p.who n p.state (requests.CloseFd a.fd) p.who (act.Detach a.fd) only o.idle o.some answer.Done;
    }

pub invariant_of-proc : goal.invariant_of-proc
invariant_of-proc g c =
    let S = g.J.Whose.book.session in let a = c.args in let q = c.requires in let n = c.in_ok-number.number in let i = c.proc.inside in let p = i.process in
    let o = opened S i.process i.number i.caller i.way c.proc.invariant.0 a.proc.now (c.proc.view_is ∙ c.in_ok-number.ensures.same) n c.in_ok-number.ensures.number in
    let free = asks o (ask.Held a.fd) ∙ c.in_default.ensures.ok.0 refl in
    let s = c.detach in let e = s.new.caller in
    let only = close_step p.who p.state a.fd q.fd free (λ d at. q.object d (sym (holds o a.fd) ∙ at)) in (
      rests o s.new.self e (λ k. (s.ensures.state k).who) (once i.caller e 0 s.ensures.entry.caller)
          (subst (λ (v : ProcessView). IsIdle S e.seen v.who n v.state) (sym s.ensures.state) (here_idle S i.caller.seen p.who n p.state (requests.CloseFd a.fd) p.who (act.Detach a.fd) only o.idle o.some answer.Done p.seen e.seen s.ensures.entry.entered refl refl o.idle.lives))
          s.ensures.entry.few,
      tt,
    )

pub returns-clause-call : goal.returns-clause-call
returns-clause-call g c =
    let S = g.J.Whose.book.session in let a = c.args in let q = c.requires in let n = c.in_ok-number.number in let i = c.proc.inside in let p = i.process in
    let o = opened S i.process i.number i.caller i.way c.proc.invariant.0 a.proc.now (c.proc.view_is ∙ c.in_ok-number.ensures.same) n c.in_ok-number.ensures.number in
    let free = asks o (ask.Held a.fd) ∙ c.in_default.ensures.ok.0 refl in
    let s = c.detach in let e = s.new.caller in
    let only = close_step p.who p.state a.fd q.fd free (λ d at. q.object d (sym (holds o a.fd) ∙ at)) in
    answers o s.new.self e (λ k. (s.ensures.state k).who) g.J.Whose.places (requests.CloseFd a.fd) refl moved.Done
    (subst (λ (v : ProcessView). HasMoved S p.who i.caller.seen e.seen v.state (requests.CloseFd a.fd) moved.Done) (sym s.ensures.state)
    (here_moved S i.caller.seen p.who n p.state (requests.CloseFd a.fd) p.who (act.Detach a.fd) only o.idle o.some answer.Done p.seen e.seen s.ensures.entry.entered refl refl o.idle.lives moved.Done tt))
