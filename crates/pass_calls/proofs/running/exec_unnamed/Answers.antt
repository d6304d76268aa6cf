use Rattle.std.proofs.Common.{◌≡◌, ◌∙◌, refl, sym, subst}
use Rattle.pass_entry.specs.declared.entry.Act.TheVariants as act
use Rattle.pass_entry.specs.declared.entry.CallFault.TheVariants as fault
use Rattle.pass_entry.specs.declared.entry.CallName.TheVariants as calls
use Rattle.pass_entry.specs.declared.entry.Reply.{Reply}
use Rattle.pass_plain.specs.Places.{kept_by}
use Rattle.pass_plain.specs.Registries.{registry_after}
use Rattle.pass_plain.specs.States.{registry_reply}
use Rattle.pass_plain.specs.declared.request.Request.TheVariants as requests
use Rattle.pass_hold.specs.Callings.{IsEntered}
use Rattle.pass_hold.specs.Entering.{MayEnter}
use Rattle.pass_registry.specs.Desks.{on_registry}
use Rattle.pass_registry.specs.Outcomes.{reply_made}
use Rattle.pass_calls.proofs.Frame.{has_room, once, opened, over, replies, rests}
use Rattle.pass_calls.proofs.Runs.{answers_none, find_may, not_found, not_found_idle}
use Rattle.pass_calls.proofs.running.exec_unnamed.Goals as goal

pub returns-in_err-number : goal.returns-in_err-number
returns-in_err-number g c =
    let S = g.J.Whose.book.session in let a = c.args in
    record {
      call = over S g.J.Whose.places a.proc.now c.begin.new.proc (requests.Exec a.name.now a.args.now) c.from_residual.result c.in_err-number.field-0.0 c.from_residual.ensures.1 (c.in_err-number.ensures.full (requests.Exec a.name.now a.args.now) refl refl);
    }

pub find-requires-clause-place : goal.find-requires-clause-place
find-requires-clause-place g c =
    let S = g.J.Whose.book.session in let a = c.args in let n = c.in_ok-number.number in let i = c.proc.inside in
    let o = opened S i.process i.number i.caller i.way c.proc.invariant.0 a.proc.now (c.proc.view_is ∙ c.in_ok-number.ensures.same) n c.in_ok-number.ensures.number in
    has_room o c.held.ensures.call c.begin.new.shelf c.in_ok-number.ensures.places

pub find-requires-clause-entry : goal.find-requires-clause-entry
find-requires-clause-entry g c = λ reply.
    let S = g.J.Whose.book.session in let a = c.args in let q = c.requires in let n = c.in_ok-number.number in let i = c.proc.inside in let p = i.process in
    let o = opened S i.process i.number i.caller i.way c.proc.invariant.0 a.proc.now (c.proc.view_is ∙ c.in_ok-number.ensures.same) n c.in_ok-number.ensures.number in
    let name = a.name.now in let args = a.args.now in let sought = c.in_ok-sought.ensures.cases in let line = c.as_bytes.ensures.line in
    subst (λ t. MayEnter i.caller.seen (on_registry c.pnode-who.result n calls.Exec (act.Find t) reply) (kept_by reply 2)) (sym sought)
    (subst (λ who. MayEnter i.caller.seen (on_registry who n calls.Exec (act.Find name) reply) (kept_by reply 2)) (sym c.pnode-who.ensures) (find_may S i.caller.seen p.who n p.state name args o.idle o.some q.name line reply))

pub invariant_of-proc : goal.invariant_of-proc
invariant_of-proc g c =
    let S = g.J.Whose.book.session in let a = c.args in let q = c.requires in let n = c.in_ok-number.number in let i = c.proc.inside in let p = i.process in
    let o = opened S i.process i.number i.caller i.way c.proc.invariant.0 a.proc.now (c.proc.view_is ∙ c.in_ok-number.ensures.same) n c.in_ok-number.ensures.number in
    let name = a.name.now in let args = a.args.now in let sought = c.in_ok-sought.ensures.cases in let line = c.as_bytes.ensures.line in let r = a.registry.now in let f = c.find in
    let e = f.new.caller in
    let finds = subst (λ (reply : Reply). IsEntered S i.caller.seen r.seen f.new.caller.seen (on_registry p.who n calls.Exec (act.Find name) reply)) (answers_none S (registry_after S r.seen) name f.result (subst (λ t. reply_made f.result ≡ registry_reply S (registry_after S r.seen) (act.Find t)) sought f.ensures.answer) q.none)
    (subst (λ t. IsEntered S i.caller.seen r.seen f.new.caller.seen (on_registry p.who n calls.Exec (act.Find t) (reply_made f.result))) sought
    (subst (λ who. IsEntered S i.caller.seen r.seen f.new.caller.seen (on_registry who n calls.Exec (act.Find c.in_ok-sought.sought) (reply_made f.result))) c.pnode-who.ensures f.ensures.entry.entered)) in
    (rests o p e refl (once i.caller e _ f.ensures.entry.caller) (not_found_idle S i.caller.seen p.who n p.state name args o.idle o.some q.name line r.seen e.seen fault.NoEntry finds) f.ensures.entry.few, tt)

pub returns : goal.returns
returns g c =
    let S = g.J.Whose.book.session in let a = c.args in let q = c.requires in let n = c.in_ok-number.number in let i = c.proc.inside in let p = i.process in
    let o = opened S i.process i.number i.caller i.way c.proc.invariant.0 a.proc.now (c.proc.view_is ∙ c.in_ok-number.ensures.same) n c.in_ok-number.ensures.number in
    let name = a.name.now in let args = a.args.now in let sought = c.in_ok-sought.ensures.cases in let line = c.as_bytes.ensures.line in let r = a.registry.now in let f = c.find in
    let e = f.new.caller in
    let finds = subst (λ (reply : Reply). IsEntered S i.caller.seen r.seen f.new.caller.seen (on_registry p.who n calls.Exec (act.Find name) reply)) (answers_none S (registry_after S r.seen) name f.result (subst (λ t. reply_made f.result ≡ registry_reply S (registry_after S r.seen) (act.Find t)) sought f.ensures.answer) q.none)
    (subst (λ t. IsEntered S i.caller.seen r.seen f.new.caller.seen (on_registry p.who n calls.Exec (act.Find t) (reply_made f.result))) sought
    (subst (λ who. IsEntered S i.caller.seen r.seen f.new.caller.seen (on_registry who n calls.Exec (act.Find c.in_ok-sought.sought) (reply_made f.result))) c.pnode-who.ensures f.ensures.entry.entered)) in
    record {
      call = replies o p e refl g.J.Whose.places (requests.Exec name args) refl fault.NoEntry (not_found S i.caller.seen p.who n p.state name args o.idle o.some q.name line r.seen e.seen fault.NoEntry finds);
    }
