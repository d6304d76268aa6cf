use Rattle.std.proofs.Common.{◌≡◌, ◌∙◌, length, refl, sym, subst, ap}
use Rattle.std.specs.Prelude.{Some, Err, take}
use Rattle.std.specs.FinMap as finite_map
use Rattle.pass_entry.specs.declared.entry.Act.TheVariants as act
use Rattle.pass_entry.specs.declared.entry.Ask.TheVariants as ask
use Rattle.pass_entry.specs.declared.entry.CallName.TheVariants as calls
use Rattle.pass_entry.specs.declared.entry.Reply.TheVariants as answer
use Rattle.pass_plain.specs.Processes.{changed_at, risen, Process}
use Rattle.pass_plain.specs.declared.request.Request.TheVariants as requests
use Rattle.pass_hold.specs.Callings.{IsEntered, IsIdle}
use Rattle.pass_hold.specs.Entering.{MayEnter}
use Rattle.pass_proc.specs.Acts.{own_entry}
use Rattle.pass_proc.specs.UnderWay.{IsUnderWay}
use Rattle.pass_proc.specs.Views.{ProcessView}
use Rattle.pass_proc.specs.declared.way.Way.{Way}
use Rattle.pass_answer.specs.Answers.{Answers}
use Rattle.pass_calls.proofs.Begun.{begins_write}
use Rattle.pass_calls.proofs.Frame.{asks, has_room, holds, once, opened, passed, rests}
use Rattle.pass_calls.proofs.PipeWrites.{show_may, shown_idle, under_way, still_held}
use Rattle.pass_calls.proofs.pipe_writing.begin_write.Goals as goal

pub returns-in_err-number-clause-full : goal.returns-in_err-number-clause-full
returns-in_err-number-clause-full g c =
    let S = g.J.Whose.book.session in let a = c.args in let q = c.requires in
    passed c.from_residual.result c.in_err-number.field-0.0 (λ end. Answers S g.J.Whose.places a.proc.now c.begin.new.proc (requests.Write a.fd a.bytes) (Err end)) c.from_residual.ensures.1 (c.in_err-number.ensures.full (requests.Write a.fd a.bytes) refl q.new)

pub show-out-requires : goal.show-out-requires
show-out-requires g c =
    let S = g.J.Whose.book.session in let a = c.args in let q = c.requires in let n = c.in_ok-number.number in let i = c.proc.inside in let p = i.process in
    let o = opened S i.process i.number i.caller i.way c.proc.invariant.0 a.proc.now (c.proc.view_is ∙ c.in_ok-number.ensures.same) n c.in_ok-number.ensures.number in
    let bytes = a.bytes in let d = c.held-to.result in
    let free = asks o (ask.ToWrite a.fd (length bytes)) ∙ q.free in
    let at = holds o a.fd ∙ c.held-to.ensures in let pipe = q.pipe d c.held-to.ensures in
    record {
      fd = q.fd;
      place = has_room o c.held.ensures.call c.begin.new.shelf c.in_ok-number.ensures.places;
      who = o.who;
      entry = subst (λ bs. MayEnter i.caller.seen (own_entry p.who n calls.Write (act.Show a.fd (length bs)) answer.Done) 2) (sym c.as_bytes.ensures.bytes) (show_may S i.caller.seen p.who n p.state a.fd bytes d o.idle o.some free q.fd c.as_bytes.ensures.within at pipe);
    }

pub invariant_of-proc : goal.invariant_of-proc
invariant_of-proc g c =
    let S = g.J.Whose.book.session in let a = c.args in let q = c.requires in let n = c.in_ok-number.number in let i = c.proc.inside in let p = i.process in
    let o = opened S i.process i.number i.caller i.way c.proc.invariant.0 a.proc.now (c.proc.view_is ∙ c.in_ok-number.ensures.same) n c.in_ok-number.ensures.number in
    let bytes = a.bytes in let d = c.held-to.result in
    let free = asks o (ask.ToWrite a.fd (length bytes)) ∙ q.free in
    let at = holds o a.fd ∙ c.held-to.ensures in let pipe = q.pipe d c.held-to.ensures in let s = c.show-out in let e = s.new.caller in let after = e.seen in let out = s.result.0 in
    let shows = subst (λ bs. IsEntered S i.caller.seen p.seen after (own_entry p.who n calls.Write (act.Show a.fd (length bs)) answer.Done)) c.as_bytes.ensures.bytes s.ensures.entry.entered in
    let state = ap (λ (v : ProcessView). v.state) s.ensures.state ∙ ap (λ bs. record p.state { descriptors = changed_at p.state.descriptors a.fd (risen (length bs)) }) c.as_bytes.ensures.bytes in
    let way : Way = record { fd = a.fd; bytes = bytes; to = d; out = out; source = s.result.1 } in (
      rests o s.new.self e (λ k. (s.ensures.state k).who) (once i.caller e 2 s.ensures.entry.caller)
          (subst (λ w. IsIdle S after w n s.new.self.state) (λ k. (sym s.ensures.state k).who)
          (subst (λ (v : Process). IsIdle S after p.who n v) (sym state) (shown_idle S i.caller.seen p.who n p.state a.fd bytes d o.idle o.some free q.fd c.as_bytes.ensures.within at pipe p.seen after out s.ensures.at.place shows)))
          s.ensures.entry.few,
      subst (λ w. IsUnderWay S w n (take out after) after s.new.self.state way) (λ k. (sym s.ensures.state k).who)
          (subst (λ (v : Process). IsUnderWay S p.who n (take out after) after v way) (sym state)
          (under_way S i.caller.seen p.who n p.state a.fd bytes d o.idle o.some free q.fd c.as_bytes.ensures.within at pipe p.seen after out s.ensures.at.place s.result.1 s.ensures.at.node shows)),
    )

pub returns-clause-begun : goal.returns-clause-begun
returns-clause-begun g c =
    let S = g.J.Whose.book.session in let a = c.args in let q = c.requires in let n = c.in_ok-number.number in let i = c.proc.inside in let p = i.process in
    let o = opened S i.process i.number i.caller i.way c.proc.invariant.0 a.proc.now (c.proc.view_is ∙ c.in_ok-number.ensures.same) n c.in_ok-number.ensures.number in
    let bytes = a.bytes in let d = c.held-to.result in let at = holds o a.fd ∙ c.held-to.ensures in let pipe = q.pipe d c.held-to.ensures in let s = c.show-out in let e = s.new.caller in
    let after = e.seen in let out = s.result.0 in
    let shows = subst (λ bs. IsEntered S i.caller.seen p.seen after (own_entry p.who n calls.Write (act.Show a.fd (length bs)) answer.Done)) c.as_bytes.ensures.bytes s.ensures.entry.entered in
    let state = ap (λ (v : ProcessView). v.state) s.ensures.state ∙ ap (λ bs. record p.state { descriptors = changed_at p.state.descriptors a.fd (risen (length bs)) }) c.as_bytes.ensures.bytes in
    let is : finite_map.get s.new.self.state.descriptors a.fd ≡ Some d = ap (λ (v : Process). finite_map.get v.descriptors a.fd) state ∙ still_held p.state.descriptors a.fd (length bytes) d at pipe in
    begins_write o s.new.self e a.fd bytes d out s.result.1 q.new (λ k. (s.ensures.state k).who) s.ensures.at.place (λ y its. c.held-to.ensures ∙ sym is ∙ its)
    (λ k. (s.ensures.entry.caller k).looks) p.seen shows
