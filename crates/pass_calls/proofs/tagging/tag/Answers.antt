use Rattle.std.proofs.Common.{◌≡◌, ◌∙◌, refl, sym, subst, ap}
use Rattle.std.specs.Prelude.{Some}
use Rattle.std.specs.FinMap as finite_map
use Rattle.pass_entry.specs.Texts.{is_name}
use Rattle.pass_entry.specs.declared.entry.Ask.TheVariants as ask
use Rattle.pass_entry.specs.declared.objects.Descriptor.{Descriptor}
use Rattle.pass_plain.specs.declared.request.Request.TheVariants as requests
use Rattle.pass_hold.specs.Callings.{IsEntered}
use Rattle.pass_hold.specs.Entering.{MayEnter}
use Rattle.pass_flow.specs.Flows.{tag_entry}
use Rattle.pass_flow.specs.Tags.{TagView}
use Rattle.pass_answer.specs.Answers.{HasMoved}
use Rattle.pass_answer.specs.declared.answer.Moved.TheVariants as moved
use Rattle.pass_calls.proofs.Frame.{answers, asks, has_room, holds, once, opened, over, rests}
use Rattle.pass_calls.proofs.VersionCalls.{tag_may, tagged_moved, tagged_idle}
use Rattle.pass_calls.proofs.tagging.tag.Goals as goal

pub returns-in_err-number-clause-call : goal.returns-in_err-number-clause-call
returns-in_err-number-clause-call g c =
    let S = g.J.Whose.book.session in let a = c.args in
    over S g.J.Whose.places a.proc.now c.begin.new.proc (requests.TagObj a.fd a.attr.now a.value.now) c.from_residual.result c.in_err-number.field-0.0 c.from_residual.ensures.1 (c.in_err-number.ensures.full (requests.TagObj a.fd a.attr.now a.value.now) refl refl)

pub tag-requires : goal.tag-requires
tag-requires g c =
    let S = g.J.Whose.book.session in let a = c.args in let q = c.requires in let n = c.in_ok-number.number in let i = c.proc.inside in let p = i.process in
    let o = opened S i.process i.number i.caller i.way c.proc.invariant.0 a.proc.now (c.proc.view_is ∙ c.in_ok-number.ensures.same) n c.in_ok-number.ensures.number in
    let room = c.in_ok-room.room in let named = c.in_ok-room.ensures in
    let attr = ap (λ (r : TagView). is_name r.attr) named ∙ q.names.0 in
    let value = ap (λ (r : TagView). is_name r.value) named ∙ q.names.1 in
    let x = g.V.Versioned.object a.object.now in let free = asks o (ask.Held a.fd) ∙ q.free in
    let its : (d : Descriptor) → finite_map.get p.state.descriptors a.fd ≡ Some d → x.what ≡ d.pnode = λ d at. q.object d (sym (holds o a.fd) ∙ at) in
    record {
      who = o.who ∙ sym c.pnode-who.ensures;
      place = has_room o c.held.ensures.call c.begin.new.shelf c.in_ok-number.ensures.places;
      entry = subst (λ who. MayEnter i.caller.seen (tag_entry who n x.what room.attr room.value) 0) (sym c.pnode-who.ensures) (tag_may S i.caller.seen p.who n p.state a.fd room.attr room.value x.what o.idle o.some free q.fd attr value its);
    }

pub invariant_of-proc : goal.invariant_of-proc
invariant_of-proc g c =
    let S = g.J.Whose.book.session in let a = c.args in let q = c.requires in let n = c.in_ok-number.number in let i = c.proc.inside in let p = i.process in
    let o = opened S i.process i.number i.caller i.way c.proc.invariant.0 a.proc.now (c.proc.view_is ∙ c.in_ok-number.ensures.same) n c.in_ok-number.ensures.number in
    let room = c.in_ok-room.room in let named = c.in_ok-room.ensures in
    let attr = ap (λ (r : TagView). is_name r.attr) named ∙ q.names.0 in
    let value = ap (λ (r : TagView). is_name r.value) named ∙ q.names.1 in
    let x = g.V.Versioned.object a.object.now in let free = asks o (ask.Held a.fd) ∙ q.free in
    let its : (d : Descriptor) → finite_map.get p.state.descriptors a.fd ≡ Some d → x.what ≡ d.pnode = λ d at. q.object d (sym (holds o a.fd) ∙ at) in
    let s = c.tag in let e = s.new.caller in
    let made = subst (λ who. IsEntered S i.caller.seen x.seen e.seen (tag_entry who n x.what room.attr room.value)) c.pnode-who.ensures s.ensures.entry.entered in
    (rests o p e refl (once i.caller e 0 s.ensures.entry.caller) (tagged_idle S i.caller.seen p.who n p.state a.fd room.attr room.value x.what o.idle o.some free q.fd attr value its x.seen e.seen made) s.ensures.entry.few, tt)

pub returns-clause-call : goal.returns-clause-call
returns-clause-call g c =
    let S = g.J.Whose.book.session in let a = c.args in let q = c.requires in let n = c.in_ok-number.number in let i = c.proc.inside in let p = i.process in
    let o = opened S i.process i.number i.caller i.way c.proc.invariant.0 a.proc.now (c.proc.view_is ∙ c.in_ok-number.ensures.same) n c.in_ok-number.ensures.number in
    let room = c.in_ok-room.room in let named = c.in_ok-room.ensures in
    let attr = ap (λ (r : TagView). is_name r.attr) named ∙ q.names.0 in
    let value = ap (λ (r : TagView). is_name r.value) named ∙ q.names.1 in
    let x = g.V.Versioned.object a.object.now in let free = asks o (ask.Held a.fd) ∙ q.free in
    let its : (d : Descriptor) → finite_map.get p.state.descriptors a.fd ≡ Some d → x.what ≡ d.pnode = λ d at. q.object d (sym (holds o a.fd) ∙ at) in
    let s = c.tag in let e = s.new.caller in
    let made = subst (λ who. IsEntered S i.caller.seen x.seen e.seen (tag_entry who n x.what room.attr room.value)) c.pnode-who.ensures s.ensures.entry.entered in
    answers o p e refl g.J.Whose.places (requests.TagObj a.fd a.attr.now a.value.now) refl moved.Done
    (subst (λ (r : TagView). HasMoved S p.who i.caller.seen e.seen p.state (requests.TagObj a.fd r.attr r.value) moved.Done) named
    (tagged_moved S i.caller.seen p.who n p.state a.fd room.attr room.value x.what o.idle o.some free q.fd attr value its x.seen e.seen made))
