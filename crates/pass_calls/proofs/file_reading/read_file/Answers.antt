use Rattle.std.proofs.Common.{◌∙◌, length, refl, sym, subst, ap}
use Rattle.pass_entry.specs.declared.entry.Act.TheVariants as act
use Rattle.pass_entry.specs.declared.entry.Ask.TheVariants as ask
use Rattle.pass_entry.specs.declared.entry.CallName.TheVariants as calls
use Rattle.pass_entry.specs.declared.entry.Reply.TheVariants as answer
use Rattle.pass_plain.specs.declared.request.Request.TheVariants as requests
use Rattle.pass_hold.specs.Callings.{IsEntered, IsIdle}
use Rattle.pass_hold.specs.Entering.{MayEnter}
use Rattle.pass_file.specs.Desks.{entry_on}
use Rattle.pass_proc.specs.Views.{ProcessView}
use Rattle.pass_answer.specs.Answers.{HasMoved}
use Rattle.pass_answer.specs.declared.answer.Moved.{Moved}
use Rattle.pass_answer.specs.declared.answer.Moved.TheVariants as moved
use Rattle.pass_calls.proofs.FileReads.{gain_may, give_may, given, read_idle, read_made, read_of}
use Rattle.pass_calls.proofs.Frame.{answers, asks, has_room, holds, opened, over, ready, rests, twice}
use Rattle.pass_calls.proofs.file_reading.read_file.Goals as goal

pub returns-in_err-number-clause-call : goal.returns-in_err-number-clause-call
returns-in_err-number-clause-call g c =
    let S = g.J.Whose.book.session in let a = c.args in
    over S g.J.Whose.places a.proc.now c.begin.new.proc (requests.Read a.fd a.len) c.from_residual.result c.in_err-number.field-0.0 c.from_residual.ensures.1 (c.in_err-number.ensures.full (requests.Read a.fd a.len) refl refl)

pub give-out-requires : goal.give-out-requires
give-out-requires g c =
    let S = g.J.Whose.book.session in let a = c.args in let q = c.requires in let n = c.in_ok-number.number in let i = c.proc.inside in let p = c.reserve.new.self in
    let o = ready (opened S i.process i.number i.caller i.way c.proc.invariant.0 a.proc.now (c.proc.view_is ∙ c.in_ok-number.ensures.same) n c.in_ok-number.ensures.number) p c.in_ok-reserve.ensures.same in
    let x = a.file.now in let d = a.ready.d in let free = asks o (ask.ToRead a.fd) ∙ q.free in let at = holds o a.fd ∙ q.descriptor in let its = q.object d q.descriptor in
    let bytes = a.ready.bytes in
    record {
      bytes = q.bytes;
      place = has_room o c.held.ensures.call c.begin.new.shelf c.in_ok-number.ensures.places;
      who = o.who ∙ sym c.pnode-who.ensures;
      entry = subst (λ who. MayEnter i.caller.seen (entry_on x.what who n calls.Read (act.Give d.offset a.len) (answer.Took bytes)) 2) (sym c.pnode-who.ensures) (give_may S i.caller.seen p.who n p.state a.fd a.len o.idle o.some free q.fd q.len.0 q.len.1 d at its.0 x.what its.1 bytes);
    }

pub gain-requires-clause-bytes : goal.gain-requires-clause-bytes
gain-requires-clause-bytes g c =
    let S = g.J.Whose.book.session in let a = c.args in let q = c.requires in let n = c.in_ok-number.number in let i = c.proc.inside in let p = c.reserve.new.self in
    let o = ready (opened S i.process i.number i.caller i.way c.proc.invariant.0 a.proc.now (c.proc.view_is ∙ c.in_ok-number.ensures.same) n c.in_ok-number.ensures.number) p c.in_ok-reserve.ensures.same in
    let x = a.file.now in let d = a.ready.d in let free = asks o (ask.ToRead a.fd) ∙ q.free in let at = holds o a.fd ∙ q.descriptor in let its = q.object d q.descriptor in
    let bytes = a.ready.bytes in let s = c.give-out in let after = s.new.caller.seen in
    let gives = subst (λ who. IsEntered S i.caller.seen x.seen after (entry_on x.what who n calls.Read (act.Give d.offset a.len) (answer.Took bytes))) c.pnode-who.ensures s.ensures.entry.entered in
    given S i.caller.seen p.who n p.state a.fd a.len o.idle o.some free q.fd q.len.0 q.len.1 d at its.0 x.what its.1 bytes
    x.seen after s.result.0 s.ensures.at.place gives ∙ sym q.copy

pub gain-requires-clause-entry : goal.gain-requires-clause-entry
gain-requires-clause-entry g c =
    let S = g.J.Whose.book.session in let a = c.args in let q = c.requires in let n = c.in_ok-number.number in let i = c.proc.inside in let p = c.reserve.new.self in
    let o = ready (opened S i.process i.number i.caller i.way c.proc.invariant.0 a.proc.now (c.proc.view_is ∙ c.in_ok-number.ensures.same) n c.in_ok-number.ensures.number) p c.in_ok-reserve.ensures.same in
    let x = a.file.now in let d = a.ready.d in let free = asks o (ask.ToRead a.fd) ∙ q.free in let at = holds o a.fd ∙ q.descriptor in let its = q.object d q.descriptor in
    let bytes = a.ready.bytes in let s = c.give-out in let after = s.new.caller.seen in
    let gives = subst (λ who. IsEntered S i.caller.seen x.seen after (entry_on x.what who n calls.Read (act.Give d.offset a.len) (answer.Took bytes))) c.pnode-who.ensures s.ensures.entry.entered in
    gain_may S i.caller.seen p.who n p.state a.fd a.len o.idle o.some free q.fd q.len.0 q.len.1 d at its.0 x.what its.1 bytes
    x.seen after s.result.0 s.ensures.at.place gives

pub invariant_of-proc-2 : goal.invariant_of-proc-2
invariant_of-proc-2 g c =
    let S = g.J.Whose.book.session in let a = c.args in let q = c.requires in let n = c.in_ok-number.number in let i = c.proc.inside in let p = c.reserve.new.self in
    let o = ready (opened S i.process i.number i.caller i.way c.proc.invariant.0 a.proc.now (c.proc.view_is ∙ c.in_ok-number.ensures.same) n c.in_ok-number.ensures.number) p c.in_ok-reserve.ensures.same in
    let x = a.file.now in let d = a.ready.d in let free = asks o (ask.ToRead a.fd) ∙ q.free in let at = holds o a.fd ∙ q.descriptor in let its = q.object d q.descriptor in
    let bytes = a.ready.bytes in let s = c.give-out in let after = s.new.caller.seen in let w = c.gain in let e = w.new.caller in
    let gives = subst (λ who. IsEntered S i.caller.seen x.seen after (entry_on x.what who n calls.Read (act.Give d.offset a.len) (answer.Took bytes))) c.pnode-who.ensures s.ensures.entry.entered in
    let state = w.ensures.state ∙ ap (λ bs. read_of p w.new.self e.seen a.fd bs) q.copy in (
      rests o w.new.self e (λ k. (w.ensures.state k).who) (twice i.caller s.new.caller e 2 0 s.ensures.entry.caller w.ensures.entry.caller)
          (subst (λ (v : ProcessView). IsIdle S e.seen v.who n v.state) (sym state) (read_idle S i.caller.seen p.who n p.state a.fd a.len o.idle o.some free q.fd q.len.0 q.len.1 d at its.0 x.what its.1 bytes
          x.seen after s.result.0 s.ensures.at.place gives p.seen e.seen w.ensures.entry.entered))
          w.ensures.entry.few,
      tt,
    )

pub returns-clause-call : goal.returns-clause-call
returns-clause-call g c =
    let S = g.J.Whose.book.session in let a = c.args in let q = c.requires in let n = c.in_ok-number.number in let i = c.proc.inside in let p = c.reserve.new.self in
    let o = ready (opened S i.process i.number i.caller i.way c.proc.invariant.0 a.proc.now (c.proc.view_is ∙ c.in_ok-number.ensures.same) n c.in_ok-number.ensures.number) p c.in_ok-reserve.ensures.same in
    let x = a.file.now in let d = a.ready.d in let free = asks o (ask.ToRead a.fd) ∙ q.free in let at = holds o a.fd ∙ q.descriptor in let its = q.object d q.descriptor in
    let bytes = a.ready.bytes in let s = c.give-out in let after = s.new.caller.seen in let w = c.gain in let e = w.new.caller in
    let gives = subst (λ who. IsEntered S i.caller.seen x.seen after (entry_on x.what who n calls.Read (act.Give d.offset a.len) (answer.Took bytes))) c.pnode-who.ensures s.ensures.entry.entered in
    let state = w.ensures.state ∙ ap (λ bs. read_of p w.new.self e.seen a.fd bs) q.copy in
    let m : Moved = moved.Read (length c.as_bytes.result.now) s.result.1 in
    answers o w.new.self e (λ k. (w.ensures.state k).who) g.J.Whose.places (requests.Read a.fd a.len) refl m
    (subst (λ (v : ProcessView). HasMoved S p.who i.caller.seen e.seen v.state (requests.Read a.fd a.len) m) (sym state)
    (subst (λ bs. HasMoved S p.who i.caller.seen e.seen (read_of p w.new.self e.seen a.fd bytes).state (requests.Read a.fd a.len) (moved.Read (length bs) s.result.1)) (sym c.as_bytes.ensures.bytes)
    (read_made S i.caller.seen p.who n p.state a.fd a.len o.idle o.some free q.fd q.len.0 q.len.1 d at its.0 x.what its.1 bytes
    x.seen after s.result.0 s.ensures.at.place gives p.seen e.seen w.ensures.entry.entered s.result.1 s.ensures.at.node)))
