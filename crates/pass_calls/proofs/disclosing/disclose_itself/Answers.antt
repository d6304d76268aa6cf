use Rattle.std.proofs.Common.{◌≡◌, ◌∙◌, refl, sym, subst, ap}
use Rattle.std.specs.Prelude.{Some}
use Rattle.std.specs.FinMap as finite_map
use Rattle.pass_entry.specs.declared.entry.Ask.TheVariants as ask
use Rattle.pass_entry.specs.declared.objects.Descriptor.{Descriptor}
use Rattle.pass_plain.specs.declared.request.Request.TheVariants as requests
use Rattle.pass_hold.specs.Callings.{IsEntered}
use Rattle.pass_hold.specs.Entering.{MayEnter}
use Rattle.pass_flow.specs.Flows.{cite_entry, told_entry, ObjectView}
use Rattle.pass_answer.specs.declared.answer.Moved.TheVariants as moved
use Rattle.pass_calls.proofs.Frame.{answers, asks, has_room, holds, opened, over, rests, twice}
use Rattle.pass_calls.proofs.VersionCalls.{cite_may, told_may, disclosed_moved, disclosed_idle}
use Rattle.pass_calls.proofs.disclosing.disclose_itself.Goals as goal

pub returns-in_err-number-clause-call : goal.returns-in_err-number-clause-call
returns-in_err-number-clause-call g c =
    let S = g.J.Whose.book.session in let a = c.args in
    over S g.J.Whose.places a.proc.now c.begin.new.proc (requests.Disclose a.target_fd a.source_fd) c.from_residual.result c.in_err-number.field-0.0 c.from_residual.ensures.1 (c.in_err-number.ensures.full (requests.Disclose a.target_fd a.source_fd) refl refl)

pub cite-out-requires : goal.cite-out-requires
cite-out-requires g c =
    let S = g.J.Whose.book.session in let a = c.args in let q = c.requires in let n = c.in_ok-number.number in let i = c.proc.inside in let p = i.process in
    let o = opened S i.process i.number i.caller i.way c.proc.invariant.0 a.proc.now (c.proc.view_is ∙ c.in_ok-number.ensures.same) n c.in_ok-number.ensures.number in
    let free = asks o (ask.HeldTwo a.target_fd a.source_fd) ∙ q.free in
    let x = g.V.Versioned.object c.reserve_source.new.self in
    let from : (d : Descriptor) → finite_map.get p.state.descriptors a.source_fd ≡ Some d → x.what ≡ d.pnode = λ d at. ap (λ (v : ObjectView). v.what) c.in_ok-reserve_source.ensures.same ∙ q.source d (sym (holds o a.source_fd) ∙ at) in
    let to : (d : Descriptor) → finite_map.get p.state.descriptors a.target_fd ≡ Some d → x.what ≡ d.pnode = λ d at. ap (λ (v : ObjectView). v.what) c.in_ok-reserve_source.ensures.same ∙ q.target d (sym (holds o a.target_fd) ∙ at) in
    record {
      who = o.who ∙ sym c.pnode-who.ensures;
      place = has_room o c.held.ensures.call c.begin.new.shelf c.in_ok-number.ensures.places;
      entry = subst (λ who. MayEnter i.caller.seen (cite_entry who n x.what) 2) (sym c.pnode-who.ensures) (cite_may S i.caller.seen p.who n p.state a.target_fd a.source_fd x.what x.what o.idle o.some free q.fds.0 q.fds.1 from to);
    }

pub told-requires-clause-entry : goal.told-requires-clause-entry
told-requires-clause-entry g c =
    let S = g.J.Whose.book.session in let a = c.args in let q = c.requires in let n = c.in_ok-number.number in let i = c.proc.inside in let p = i.process in
    let o = opened S i.process i.number i.caller i.way c.proc.invariant.0 a.proc.now (c.proc.view_is ∙ c.in_ok-number.ensures.same) n c.in_ok-number.ensures.number in
    let free = asks o (ask.HeldTwo a.target_fd a.source_fd) ∙ q.free in
    let s = c.cite-out in let after = s.new.caller.seen in let x = g.V.Versioned.object c.reserve_source.new.self in
    let from : (d : Descriptor) → finite_map.get p.state.descriptors a.source_fd ≡ Some d → x.what ≡ d.pnode = λ d at. ap (λ (v : ObjectView). v.what) c.in_ok-reserve_source.ensures.same ∙ q.source d (sym (holds o a.source_fd) ∙ at) in
    let to : (d : Descriptor) → finite_map.get p.state.descriptors a.target_fd ≡ Some d → x.what ≡ d.pnode = λ d at. ap (λ (v : ObjectView). v.what) c.in_ok-reserve_source.ensures.same ∙ q.target d (sym (holds o a.target_fd) ∙ at) in
    let cited = subst (λ who. IsEntered S i.caller.seen x.seen after (cite_entry who n x.what)) c.pnode-who.ensures s.ensures.entry.entered in
    let same = ap (λ (v : ObjectView). v.what) s.ensures.state in
    subst (λ what. MayEnter after (told_entry c.pnode-who.result n what s.result.0) 0) (sym same)
    (subst (λ who. MayEnter after (told_entry who n x.what s.result.0) 0) (sym c.pnode-who.ensures) (told_may S i.caller.seen p.who n p.state a.target_fd a.source_fd x.what x.what o.idle o.some free q.fds.0 q.fds.1 from to
    x.seen after s.result.0 s.ensures.at.place cited))

pub invariant_of-proc : goal.invariant_of-proc
invariant_of-proc g c =
    let S = g.J.Whose.book.session in let a = c.args in let q = c.requires in let n = c.in_ok-number.number in let i = c.proc.inside in let p = i.process in
    let o = opened S i.process i.number i.caller i.way c.proc.invariant.0 a.proc.now (c.proc.view_is ∙ c.in_ok-number.ensures.same) n c.in_ok-number.ensures.number in
    let free = asks o (ask.HeldTwo a.target_fd a.source_fd) ∙ q.free in
    let s = c.cite-out in let after = s.new.caller.seen in let w = c.told in let e = w.new.caller in let x = g.V.Versioned.object c.reserve_source.new.self in
    let y = g.V.Versioned.object s.new.object in
    let from : (d : Descriptor) → finite_map.get p.state.descriptors a.source_fd ≡ Some d → x.what ≡ d.pnode = λ d at. ap (λ (v : ObjectView). v.what) c.in_ok-reserve_source.ensures.same ∙ q.source d (sym (holds o a.source_fd) ∙ at) in
    let to : (d : Descriptor) → finite_map.get p.state.descriptors a.target_fd ≡ Some d → x.what ≡ d.pnode = λ d at. ap (λ (v : ObjectView). v.what) c.in_ok-reserve_source.ensures.same ∙ q.target d (sym (holds o a.target_fd) ∙ at) in
    let cited = subst (λ who. IsEntered S i.caller.seen x.seen after (cite_entry who n x.what)) c.pnode-who.ensures s.ensures.entry.entered in
    let same = ap (λ (v : ObjectView). v.what) s.ensures.state in
    let told = subst (λ what. IsEntered S after y.seen e.seen (told_entry p.who n what s.result.0)) same
    (subst (λ who. IsEntered S after y.seen e.seen (told_entry who n y.what s.result.0)) c.pnode-who.ensures w.ensures.entry.entered) in (
      rests o p e refl (twice i.caller s.new.caller e 2 0 s.ensures.entry.caller w.ensures.entry.caller) (disclosed_idle S i.caller.seen p.who n p.state a.target_fd a.source_fd x.what x.what o.idle o.some free q.fds.0 q.fds.1 from to
          x.seen after s.result.0 s.ensures.at.place cited y.seen e.seen told) w.ensures.entry.few,
      tt,
    )

pub returns-clause-call : goal.returns-clause-call
returns-clause-call g c =
    let S = g.J.Whose.book.session in let a = c.args in let q = c.requires in let n = c.in_ok-number.number in let i = c.proc.inside in let p = i.process in
    let o = opened S i.process i.number i.caller i.way c.proc.invariant.0 a.proc.now (c.proc.view_is ∙ c.in_ok-number.ensures.same) n c.in_ok-number.ensures.number in
    let free = asks o (ask.HeldTwo a.target_fd a.source_fd) ∙ q.free in
    let s = c.cite-out in let after = s.new.caller.seen in let w = c.told in let e = w.new.caller in let x = g.V.Versioned.object c.reserve_source.new.self in
    let y = g.V.Versioned.object s.new.object in
    let from : (d : Descriptor) → finite_map.get p.state.descriptors a.source_fd ≡ Some d → x.what ≡ d.pnode = λ d at. ap (λ (v : ObjectView). v.what) c.in_ok-reserve_source.ensures.same ∙ q.source d (sym (holds o a.source_fd) ∙ at) in
    let to : (d : Descriptor) → finite_map.get p.state.descriptors a.target_fd ≡ Some d → x.what ≡ d.pnode = λ d at. ap (λ (v : ObjectView). v.what) c.in_ok-reserve_source.ensures.same ∙ q.target d (sym (holds o a.target_fd) ∙ at) in
    let cited = subst (λ who. IsEntered S i.caller.seen x.seen after (cite_entry who n x.what)) c.pnode-who.ensures s.ensures.entry.entered in
    let same = ap (λ (v : ObjectView). v.what) s.ensures.state in
    let told = subst (λ what. IsEntered S after y.seen e.seen (told_entry p.who n what s.result.0)) same
    (subst (λ who. IsEntered S after y.seen e.seen (told_entry who n y.what s.result.0)) c.pnode-who.ensures w.ensures.entry.entered) in
    answers o p e refl g.J.Whose.places (requests.Disclose a.target_fd a.source_fd) refl moved.Done (disclosed_moved S i.caller.seen p.who n p.state a.target_fd a.source_fd x.what x.what o.idle o.some free q.fds.0 q.fds.1 from to
    x.seen after s.result.0 s.ensures.at.place cited y.seen e.seen told)
