use Rattle.std.proofs.Common.{◌∙◌, length, refl, sym, subst}
use Rattle.pass_entry.specs.declared.entry.Act.TheVariants as act
use Rattle.pass_entry.specs.declared.entry.Ask.TheVariants as ask
use Rattle.pass_entry.specs.declared.entry.CallName.TheVariants as calls
use Rattle.pass_entry.specs.declared.entry.Reply.TheVariants as answer
use Rattle.pass_plain.specs.declared.request.Request.TheVariants as requests
use Rattle.pass_hold.specs.Callings.{IsEntered, IsIdle}
use Rattle.pass_hold.specs.Entering.{MayEnter}
use Rattle.pass_file.specs.Desks.{entry_on}
use Rattle.pass_proc.specs.Acts.{own_entry}
use Rattle.pass_proc.specs.Views.{ProcessView}
use Rattle.pass_answer.specs.Answers.{HasMoved}
use Rattle.pass_answer.specs.declared.answer.Moved.{Moved}
use Rattle.pass_answer.specs.declared.answer.Moved.TheVariants as moved
use Rattle.pass_calls.proofs.FileWrites.{first_may, put_may, put_idle, put_made}
use Rattle.pass_calls.proofs.Frame.{answers, asks, has_room, holds, once, one_left, opened, over, rests, twice}
use Rattle.pass_calls.proofs.Shown.{shown}
use Rattle.pass_calls.proofs.file_writing.write_file.Goals as goal

pub returns-in_err-number-clause-call : goal.returns-in_err-number-clause-call
returns-in_err-number-clause-call g c =
    let S = g.J.Whose.book.session in let a = c.args in let q = c.requires in
    over S g.J.Whose.places a.proc.now c.begin.new.proc (requests.Write a.fd a.ready.bytes) c.from_residual.result c.in_err-number.field-0.0 c.from_residual.ensures.1 (c.in_err-number.ensures.full (requests.Write a.fd a.ready.bytes) refl q.new)

pub show-out-requires : goal.show-out-requires
show-out-requires g c =
    let S = g.J.Whose.book.session in let a = c.args in let q = c.requires in let n = c.in_ok-number.number in let i = c.proc.inside in let p = i.process in
    let o = opened S i.process i.number i.caller i.way c.proc.invariant.0 a.proc.now (c.proc.view_is ∙ c.in_ok-number.ensures.same) n c.in_ok-number.ensures.number in
    let bytes = a.ready.bytes in
    let free = asks o (ask.ToWrite a.fd (length bytes)) ∙ q.free in
    record {
      fd = q.fd;
      place = has_room o c.held.ensures.call c.begin.new.shelf c.in_ok-number.ensures.places;
      who = o.who;
      entry = subst (λ bs. MayEnter i.caller.seen (own_entry p.who n calls.Write (act.Show a.fd (length bs)) answer.Done) 2) (sym c.as_bytes.ensures.bytes) (first_may S i.caller.seen p.who n p.state a.fd bytes o.idle o.some free q.fd c.as_bytes.ensures.within);
    }

pub put-to-requires : goal.put-to-requires
put-to-requires g c =
    let S = g.J.Whose.book.session in let a = c.args in let q = c.requires in let n = c.in_ok-number.number in let i = c.proc.inside in let p = i.process in
    let o = opened S i.process i.number i.caller i.way c.proc.invariant.0 a.proc.now (c.proc.view_is ∙ c.in_ok-number.ensures.same) n c.in_ok-number.ensures.number in
    let x = a.file.now in let d = a.ready.d in let bytes = a.ready.bytes in let its = q.object d q.descriptor in
    let free = asks o (ask.ToWrite a.fd (length bytes)) ∙ q.free in
    let at = holds o a.fd ∙ q.descriptor in let s = c.show-out in let after = s.new.caller.seen in
    let shows = subst (λ bs. IsEntered S i.caller.seen p.seen after (own_entry p.who n calls.Write (act.Show a.fd (length bs)) answer.Done)) c.as_bytes.ensures.bytes s.ensures.entry.entered in
    record {
      room = q.room;
      list = q.list;
      place = one_left i.caller s.new.caller 1 s.ensures.entry.caller;
      who = (once i.caller s.new.caller 2 s.ensures.entry.caller).0 ∙ o.who ∙ sym c.pnode-who.ensures;
      entry = subst (λ who. MayEnter after (entry_on x.what who n calls.Write (act.Put s.result.0 d.offset bytes) answer.Done) 0) (sym c.pnode-who.ensures) (put_may S i.caller.seen p.who n p.state a.fd bytes o.idle o.some free q.fd c.as_bytes.ensures.within
          d at its.0 x.what its.1 p.seen after s.result.0 s.ensures.at.place shows);
      source = s.ensures.at.node;
    }

pub invariant_of-proc : goal.invariant_of-proc
invariant_of-proc g c =
    let S = g.J.Whose.book.session in let a = c.args in let q = c.requires in let n = c.in_ok-number.number in let i = c.proc.inside in let p = i.process in
    let o = opened S i.process i.number i.caller i.way c.proc.invariant.0 a.proc.now (c.proc.view_is ∙ c.in_ok-number.ensures.same) n c.in_ok-number.ensures.number in
    let x = a.file.now in let d = a.ready.d in let bytes = a.ready.bytes in let its = q.object d q.descriptor in
    let free = asks o (ask.ToWrite a.fd (length bytes)) ∙ q.free in
    let at = holds o a.fd ∙ q.descriptor in let s = c.show-out in let after = s.new.caller.seen in let w = c.put-to in let e = w.new.caller in
    let shows = subst (λ bs. IsEntered S i.caller.seen p.seen after (own_entry p.who n calls.Write (act.Show a.fd (length bs)) answer.Done)) c.as_bytes.ensures.bytes s.ensures.entry.entered in
    let puts = subst (λ who. IsEntered S after x.seen e.seen (entry_on x.what who n calls.Write (act.Put s.result.0 d.offset bytes) answer.Done)) c.pnode-who.ensures w.ensures.entry.entered in (
      rests o s.new.self e (λ k. (s.ensures.state k).who) (twice i.caller s.new.caller e 2 0 s.ensures.entry.caller w.ensures.entry.caller)
          (subst (λ (v : ProcessView). IsIdle S e.seen v.who n v.state) (sym s.ensures.state)
          (subst (λ bs. IsIdle S e.seen p.who n (shown p.state a.fd (length bs))) (sym c.as_bytes.ensures.bytes) (put_idle S i.caller.seen p.who n p.state a.fd bytes o.idle o.some free q.fd c.as_bytes.ensures.within
          d at its.0 x.what its.1 p.seen after s.result.0 s.ensures.at.place shows x.seen e.seen puts)))
          w.ensures.entry.few,
      tt,
    )

pub returns-clause-call : goal.returns-clause-call
returns-clause-call g c =
    let S = g.J.Whose.book.session in let a = c.args in let q = c.requires in let n = c.in_ok-number.number in let i = c.proc.inside in let p = i.process in
    let o = opened S i.process i.number i.caller i.way c.proc.invariant.0 a.proc.now (c.proc.view_is ∙ c.in_ok-number.ensures.same) n c.in_ok-number.ensures.number in
    let x = a.file.now in let d = a.ready.d in let bytes = a.ready.bytes in let its = q.object d q.descriptor in
    let free = asks o (ask.ToWrite a.fd (length bytes)) ∙ q.free in
    let at = holds o a.fd ∙ q.descriptor in let s = c.show-out in let after = s.new.caller.seen in let w = c.put-to in let e = w.new.caller in
    let shows = subst (λ bs. IsEntered S i.caller.seen p.seen after (own_entry p.who n calls.Write (act.Show a.fd (length bs)) answer.Done)) c.as_bytes.ensures.bytes s.ensures.entry.entered in
    let puts = subst (λ who. IsEntered S after x.seen e.seen (entry_on x.what who n calls.Write (act.Put s.result.0 d.offset bytes) answer.Done)) c.pnode-who.ensures w.ensures.entry.entered in
    let m : Moved = moved.Wrote (length c.as_bytes.result.now) w.result in
    answers o s.new.self e (λ k. (s.ensures.state k).who) g.J.Whose.places (requests.Write a.fd bytes) q.new m
    (subst (λ (v : ProcessView). HasMoved S p.who i.caller.seen e.seen v.state (requests.Write a.fd bytes) m) (sym s.ensures.state)
    (subst (λ bs. HasMoved S p.who i.caller.seen e.seen (shown p.state a.fd (length bs)) (requests.Write a.fd bytes) (moved.Wrote (length bs) w.result)) (sym c.as_bytes.ensures.bytes)
    (put_made S i.caller.seen p.who n p.state a.fd bytes o.idle o.some free q.fd c.as_bytes.ensures.within
    d at its.0 x.what its.1 p.seen after s.result.0 s.ensures.at.place shows x.seen e.seen puts w.result w.ensures.node)))
