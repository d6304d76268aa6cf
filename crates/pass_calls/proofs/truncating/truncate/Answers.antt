use Rattle.std.proofs.Common.{◌≡◌, ◌∙◌, refl, sym, subst}
use Rattle.std.specs.Prelude.{Some}
use Rattle.std.specs.FinMap as finite_map
use Rattle.pass_entry.specs.declared.entry.Act.TheVariants as act
use Rattle.pass_entry.specs.declared.entry.Ask.TheVariants as ask
use Rattle.pass_entry.specs.declared.entry.CallName.TheVariants as calls
use Rattle.pass_entry.specs.declared.entry.Reply.TheVariants as answer
use Rattle.pass_entry.specs.declared.objects.Descriptor.{Descriptor}
use Rattle.pass_plain.specs.declared.request.Request.TheVariants as requests
use Rattle.pass_hold.specs.Callings.{IsEntered, IsIdle}
use Rattle.pass_hold.specs.Entering.{MayEnter}
use Rattle.pass_file.specs.Desks.{entry_on}
use Rattle.pass_proc.specs.Views.{ProcessView}
use Rattle.pass_answer.specs.Answers.{HasMoved}
use Rattle.pass_answer.specs.declared.answer.Moved.TheVariants as moved
use Rattle.pass_calls.proofs.Frame.{answers, asks, has_room, holds, once, one_left, opened, over, rests, twice}
use Rattle.pass_calls.proofs.Truncations.{cut_may, cut_idle, cut_made, first_may}
use Rattle.pass_calls.proofs.truncating.truncate.Goals as goal

pub returns-in_err-number-clause-call : goal.returns-in_err-number-clause-call
returns-in_err-number-clause-call g c =
    let S = g.J.Whose.book.session in let a = c.args in
    over S g.J.Whose.places a.proc.now c.begin.new.proc (requests.Truncate a.fd a.size) c.from_residual.result c.in_err-number.field-0.0 c.from_residual.ensures.1 (c.in_err-number.ensures.full (requests.Truncate a.fd a.size) refl refl)

pub show-out-requires : goal.show-out-requires
show-out-requires g c =
    let S = g.J.Whose.book.session in let a = c.args in let q = c.requires in let n = c.in_ok-number.number in let i = c.proc.inside in let p = i.process in
    let o = opened S i.process i.number i.caller i.way c.proc.invariant.0 a.proc.now (c.proc.view_is ∙ c.in_ok-number.ensures.same) n c.in_ok-number.ensures.number in
    let free = asks o (ask.ToCut a.fd a.size) ∙ q.free in
    record {
      fd = q.fd;
      place = has_room o c.held.ensures.call c.begin.new.shelf c.in_ok-number.ensures.places;
      who = o.who;
      entry = first_may S i.caller.seen p.who n p.state a.fd a.size o.idle o.some free q.fd;
    }

pub cut-requires : goal.cut-requires
cut-requires g c =
    let S = g.J.Whose.book.session in let a = c.args in let q = c.requires in let n = c.in_ok-number.number in let i = c.proc.inside in let p = i.process in
    let o = opened S i.process i.number i.caller i.way c.proc.invariant.0 a.proc.now (c.proc.view_is ∙ c.in_ok-number.ensures.same) n c.in_ok-number.ensures.number in
    let x = a.file.now in let free = asks o (ask.ToCut a.fd a.size) ∙ q.free in
    let its : (d : Descriptor) → finite_map.get p.state.descriptors a.fd ≡ Some d → x.what ≡ d.pnode = λ d at. q.object d (sym (holds o a.fd) ∙ at) in
    let s = c.show-out in let after = s.new.caller.seen in
    record {
      room = q.room;
      list = q.list;
      place = one_left i.caller s.new.caller 1 s.ensures.entry.caller;
      who = (once i.caller s.new.caller 2 s.ensures.entry.caller).0 ∙ o.who ∙ sym c.pnode-who.ensures;
      entry = subst (λ who. MayEnter after (entry_on x.what who n calls.Truncate (act.Cut s.result.0 a.size) answer.Done) 0) (sym c.pnode-who.ensures) (cut_may S i.caller.seen p.who n p.state a.fd a.size o.idle o.some free q.fd x.what its p.seen after s.result.0 s.ensures.at.place s.ensures.entry.entered);
      source = s.ensures.at.node;
    }

pub invariant_of-proc : goal.invariant_of-proc
invariant_of-proc g c =
    let S = g.J.Whose.book.session in let a = c.args in let q = c.requires in let n = c.in_ok-number.number in let i = c.proc.inside in let p = i.process in
    let o = opened S i.process i.number i.caller i.way c.proc.invariant.0 a.proc.now (c.proc.view_is ∙ c.in_ok-number.ensures.same) n c.in_ok-number.ensures.number in
    let x = a.file.now in let free = asks o (ask.ToCut a.fd a.size) ∙ q.free in
    let its : (d : Descriptor) → finite_map.get p.state.descriptors a.fd ≡ Some d → x.what ≡ d.pnode = λ d at. q.object d (sym (holds o a.fd) ∙ at) in
    let s = c.show-out in let after = s.new.caller.seen in let w = c.cut in let e = w.new.caller in
    let cuts = subst (λ who. IsEntered S after x.seen e.seen (entry_on x.what who n calls.Truncate (act.Cut s.result.0 a.size) answer.Done)) c.pnode-who.ensures w.ensures.entry.entered in (
      rests o s.new.self e (λ k. (s.ensures.state k).who) (twice i.caller s.new.caller e 2 0 s.ensures.entry.caller w.ensures.entry.caller)
          (subst (λ (v : ProcessView). IsIdle S e.seen v.who n v.state) (sym s.ensures.state) (cut_idle S i.caller.seen p.who n p.state a.fd a.size o.idle o.some free q.fd x.what its p.seen after s.result.0 s.ensures.at.place s.ensures.entry.entered x.seen e.seen cuts))
          w.ensures.entry.few,
      tt,
    )

pub returns-clause-call : goal.returns-clause-call
returns-clause-call g c =
    let S = g.J.Whose.book.session in let a = c.args in let q = c.requires in let n = c.in_ok-number.number in let i = c.proc.inside in let p = i.process in
    let o = opened S i.process i.number i.caller i.way c.proc.invariant.0 a.proc.now (c.proc.view_is ∙ c.in_ok-number.ensures.same) n c.in_ok-number.ensures.number in
    let x = a.file.now in let free = asks o (ask.ToCut a.fd a.size) ∙ q.free in
    let its : (d : Descriptor) → finite_map.get p.state.descriptors a.fd ≡ Some d → x.what ≡ d.pnode = λ d at. q.object d (sym (holds o a.fd) ∙ at) in
    let s = c.show-out in let after = s.new.caller.seen in let w = c.cut in let e = w.new.caller in
    let cuts = subst (λ who. IsEntered S after x.seen e.seen (entry_on x.what who n calls.Truncate (act.Cut s.result.0 a.size) answer.Done)) c.pnode-who.ensures w.ensures.entry.entered in
    answers o s.new.self e (λ k. (s.ensures.state k).who) g.J.Whose.places (requests.Truncate a.fd a.size) refl moved.Done
    (subst (λ (v : ProcessView). HasMoved S p.who i.caller.seen e.seen v.state (requests.Truncate a.fd a.size) moved.Done) (sym s.ensures.state)
    (cut_made S i.caller.seen p.who n p.state a.fd a.size o.idle o.some free q.fd x.what its p.seen after s.result.0 s.ensures.at.place s.ensures.entry.entered x.seen e.seen cuts))
