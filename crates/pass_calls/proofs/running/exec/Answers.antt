use Rattle.std.proofs.Common.{◌≡◌, ◌∙◌, refl, sym, subst}
use Rattle.pass_entry.specs.declared.entry.Act.TheVariants as act
use Rattle.pass_entry.specs.declared.entry.CallName.TheVariants as calls
use Rattle.pass_entry.specs.declared.entry.Reply.{Reply}
use Rattle.pass_entry.specs.declared.entry.Reply.TheVariants as answer
use Rattle.pass_plain.specs.Places.{kept_by}
use Rattle.pass_plain.specs.Registries.{registry_after}
use Rattle.pass_plain.specs.States.{registry_reply}
use Rattle.pass_plain.specs.declared.request.Request.TheVariants as requests
use Rattle.pass_hold.specs.Callings.{IsEntered, IsIdle}
use Rattle.pass_hold.specs.Entering.{MayEnter}
use Rattle.pass_file.specs.Desks.{entry_on}
use Rattle.pass_registry.specs.Desks.{on_registry}
use Rattle.pass_registry.specs.Outcomes.{reply_made}
use Rattle.pass_proc.specs.Acts.{own_entry}
use Rattle.pass_proc.specs.Execs.{ExecView}
use Rattle.pass_proc.specs.Views.{ProcessView}
use Rattle.pass_answer.specs.Answers.{HasMoved}
use Rattle.pass_answer.specs.declared.answer.Moved.TheVariants as moved
use Rattle.pass_calls.proofs.Frame.{answers, has_room, later, opened, over, ready, rests, twice}
use Rattle.pass_calls.proofs.Runs.{answers_file, find_may, load_may, run_may, run_idle, run_made}
use Rattle.pass_calls.proofs.running.exec.Goals as goal

pub returns-in_err-number-clause-call : goal.returns-in_err-number-clause-call
returns-in_err-number-clause-call g c =
    let S = g.J.Whose.book.session in let a = c.args in
    over S g.J.Whose.places a.proc.now c.begin.new.proc (requests.Exec a.name.now a.args.now) c.from_residual.result c.in_err-number.field-0.0 c.from_residual.ensures.1 (c.in_err-number.ensures.full (requests.Exec a.name.now a.args.now) refl refl)

pub find-requires-clause-place : goal.find-requires-clause-place
find-requires-clause-place g c =
    let S = g.J.Whose.book.session in let a = c.args in let n = c.in_ok-number.number in let i = c.proc.inside in let p = c.reserve.new.self in
    let o = ready (opened S i.process i.number i.caller i.way c.proc.invariant.0 a.proc.now (c.proc.view_is ∙ c.in_ok-number.ensures.same) n c.in_ok-number.ensures.number) p c.in_ok-reserve.ensures.same in
    has_room o c.held.ensures.call c.begin.new.shelf c.in_ok-number.ensures.places

pub find-requires-clause-entry : goal.find-requires-clause-entry
find-requires-clause-entry g c = λ reply.
    let S = g.J.Whose.book.session in let a = c.args in let q = c.requires in let n = c.in_ok-number.number in let i = c.proc.inside in let p = c.reserve.new.self in
    let o = ready (opened S i.process i.number i.caller i.way c.proc.invariant.0 a.proc.now (c.proc.view_is ∙ c.in_ok-number.ensures.same) n c.in_ok-number.ensures.number) p c.in_ok-reserve.ensures.same in
    let name = a.name.now in let args = a.args.now in let sought = c.in_ok-sought.ensures.cases in let line = c.as_bytes.ensures.line in
    subst (λ t. MayEnter i.caller.seen (on_registry c.pnode-who.result n calls.Exec (act.Find t) reply) (kept_by reply 2)) (sym sought)
    (subst (λ who. MayEnter i.caller.seen (on_registry who n calls.Exec (act.Find name) reply) (kept_by reply 2)) (sym c.pnode-who.ensures) (find_may S i.caller.seen p.who n p.state name args o.idle o.some q.name line reply))

pub load-out-requires-clause-entry : goal.load-out-requires-clause-entry
load-out-requires-clause-entry g c =
    let S = g.J.Whose.book.session in let a = c.args in let q = c.requires in let n = c.in_ok-number.number in let i = c.proc.inside in let p = c.reserve.new.self in
    let o = ready (opened S i.process i.number i.caller i.way c.proc.invariant.0 a.proc.now (c.proc.view_is ∙ c.in_ok-number.ensures.same) n c.in_ok-number.ensures.number) p c.in_ok-reserve.ensures.same in
    let name = a.name.now in let args = a.args.now in let sought = c.in_ok-sought.ensures.cases in let line = c.as_bytes.ensures.line in let r = a.registry.now in let f = c.find in
    let x = a.file.now in
    let finds = subst (λ (reply : Reply). IsEntered S i.caller.seen r.seen f.new.caller.seen (on_registry p.who n calls.Exec (act.Find name) reply)) (answers_file S (registry_after S r.seen) name x.what f.result (subst (λ t. reply_made f.result ≡ registry_reply S (registry_after S r.seen) (act.Find t)) sought f.ensures.answer) q.program)
    (subst (λ t. IsEntered S i.caller.seen r.seen f.new.caller.seen (on_registry p.who n calls.Exec (act.Find t) (reply_made f.result))) sought
    (subst (λ who. IsEntered S i.caller.seen r.seen f.new.caller.seen (on_registry who n calls.Exec (act.Find c.in_ok-sought.sought) (reply_made f.result))) c.pnode-who.ensures f.ensures.entry.entered)) in
    subst (λ who. MayEnter f.new.caller.seen (entry_on x.what who n calls.Exec act.Load answer.Done) 1) (sym c.pnode-who.ensures)
    (load_may S i.caller.seen p.who n p.state name args o.idle o.some q.name line x.what r.seen f.new.caller.seen finds)

pub exec-requires-clause-entry : goal.exec-requires-clause-entry
exec-requires-clause-entry g c =
    let S = g.J.Whose.book.session in let a = c.args in let q = c.requires in let n = c.in_ok-number.number in let i = c.proc.inside in let p = c.reserve.new.self in
    let o = ready (opened S i.process i.number i.caller i.way c.proc.invariant.0 a.proc.now (c.proc.view_is ∙ c.in_ok-number.ensures.same) n c.in_ok-number.ensures.number) p c.in_ok-reserve.ensures.same in
    let name = a.name.now in let args = a.args.now in let sought = c.in_ok-sought.ensures.cases in let line = c.as_bytes.ensures.line in let r = a.registry.now in let f = c.find in
    let x = a.file.now in let room = c.in_ok-room.room in let run = c.in_ok-room.ensures in let s = c.load-out in
    let finds = subst (λ (reply : Reply). IsEntered S i.caller.seen r.seen f.new.caller.seen (on_registry p.who n calls.Exec (act.Find name) reply)) (answers_file S (registry_after S r.seen) name x.what f.result (subst (λ t. reply_made f.result ≡ registry_reply S (registry_after S r.seen) (act.Find t)) sought f.ensures.answer) q.program)
    (subst (λ t. IsEntered S i.caller.seen r.seen f.new.caller.seen (on_registry p.who n calls.Exec (act.Find t) (reply_made f.result))) sought
    (subst (λ who. IsEntered S i.caller.seen r.seen f.new.caller.seen (on_registry who n calls.Exec (act.Find c.in_ok-sought.sought) (reply_made f.result))) c.pnode-who.ensures f.ensures.entry.entered)) in
    let loads = subst (λ who. IsEntered S f.new.caller.seen x.seen s.new.caller.seen (entry_on x.what who n calls.Exec act.Load answer.Done)) c.pnode-who.ensures s.ensures.entry.entered in
    subst (λ (v : ExecView). MayEnter s.new.caller.seen (own_entry p.who n calls.Exec (act.Exec s.result.0 v.name v.args) answer.Done) 0) (sym run)
    (run_may S i.caller.seen p.who n p.state name args o.idle o.some q.name line x.what r.seen f.new.caller.seen finds
    x.seen s.new.caller.seen s.result.0 s.ensures.at.place loads)

pub invariant_of-proc-2 : goal.invariant_of-proc-2
invariant_of-proc-2 g c =
    let S = g.J.Whose.book.session in let a = c.args in let q = c.requires in let n = c.in_ok-number.number in let i = c.proc.inside in let p = c.reserve.new.self in
    let o = ready (opened S i.process i.number i.caller i.way c.proc.invariant.0 a.proc.now (c.proc.view_is ∙ c.in_ok-number.ensures.same) n c.in_ok-number.ensures.number) p c.in_ok-reserve.ensures.same in
    let name = a.name.now in let args = a.args.now in let sought = c.in_ok-sought.ensures.cases in let line = c.as_bytes.ensures.line in let r = a.registry.now in let f = c.find in
    let x = a.file.now in let room = c.in_ok-room.room in let run = c.in_ok-room.ensures in let s = c.load-out in let w = c.exec in let e = w.new.caller in
    let finds = subst (λ (reply : Reply). IsEntered S i.caller.seen r.seen f.new.caller.seen (on_registry p.who n calls.Exec (act.Find name) reply)) (answers_file S (registry_after S r.seen) name x.what f.result (subst (λ t. reply_made f.result ≡ registry_reply S (registry_after S r.seen) (act.Find t)) sought f.ensures.answer) q.program)
    (subst (λ t. IsEntered S i.caller.seen r.seen f.new.caller.seen (on_registry p.who n calls.Exec (act.Find t) (reply_made f.result))) sought
    (subst (λ who. IsEntered S i.caller.seen r.seen f.new.caller.seen (on_registry who n calls.Exec (act.Find c.in_ok-sought.sought) (reply_made f.result))) c.pnode-who.ensures f.ensures.entry.entered)) in
    let loads = subst (λ who. IsEntered S f.new.caller.seen x.seen s.new.caller.seen (entry_on x.what who n calls.Exec act.Load answer.Done)) c.pnode-who.ensures s.ensures.entry.entered in
    let runs = subst (λ (v : ExecView). IsEntered S s.new.caller.seen p.seen e.seen (own_entry p.who n calls.Exec (act.Exec s.result.0 v.name v.args) answer.Done)) run w.ensures.entry.entered in (
      rests o w.new.self e (λ k. (w.ensures.state k).who) (later i.caller s.new.caller e 0 (twice i.caller f.new.caller s.new.caller _ 1 f.ensures.entry.caller s.ensures.entry.caller) w.ensures.entry.caller)
          (subst (λ (v : ProcessView). IsIdle S e.seen v.who n v.state) (sym w.ensures.state) (run_idle S i.caller.seen p.who n p.state name args o.idle o.some q.name line x.what r.seen f.new.caller.seen finds
          x.seen s.new.caller.seen s.result.0 s.ensures.at.place loads p.seen e.seen runs))
          w.ensures.entry.few,
      tt,
    )

pub returns-clause-call : goal.returns-clause-call
returns-clause-call g c =
    let S = g.J.Whose.book.session in let a = c.args in let q = c.requires in let n = c.in_ok-number.number in let i = c.proc.inside in let p = c.reserve.new.self in
    let o = ready (opened S i.process i.number i.caller i.way c.proc.invariant.0 a.proc.now (c.proc.view_is ∙ c.in_ok-number.ensures.same) n c.in_ok-number.ensures.number) p c.in_ok-reserve.ensures.same in
    let name = a.name.now in let args = a.args.now in let sought = c.in_ok-sought.ensures.cases in let line = c.as_bytes.ensures.line in let r = a.registry.now in let f = c.find in
    let x = a.file.now in let room = c.in_ok-room.room in let run = c.in_ok-room.ensures in let s = c.load-out in let w = c.exec in let e = w.new.caller in
    let finds = subst (λ (reply : Reply). IsEntered S i.caller.seen r.seen f.new.caller.seen (on_registry p.who n calls.Exec (act.Find name) reply)) (answers_file S (registry_after S r.seen) name x.what f.result (subst (λ t. reply_made f.result ≡ registry_reply S (registry_after S r.seen) (act.Find t)) sought f.ensures.answer) q.program)
    (subst (λ t. IsEntered S i.caller.seen r.seen f.new.caller.seen (on_registry p.who n calls.Exec (act.Find t) (reply_made f.result))) sought
    (subst (λ who. IsEntered S i.caller.seen r.seen f.new.caller.seen (on_registry who n calls.Exec (act.Find c.in_ok-sought.sought) (reply_made f.result))) c.pnode-who.ensures f.ensures.entry.entered)) in
    let loads = subst (λ who. IsEntered S f.new.caller.seen x.seen s.new.caller.seen (entry_on x.what who n calls.Exec act.Load answer.Done)) c.pnode-who.ensures s.ensures.entry.entered in
    let runs = subst (λ (v : ExecView). IsEntered S s.new.caller.seen p.seen e.seen (own_entry p.who n calls.Exec (act.Exec s.result.0 v.name v.args) answer.Done)) run w.ensures.entry.entered in
    answers o w.new.self e (λ k. (w.ensures.state k).who) g.J.Whose.places (requests.Exec name args) refl moved.Done
    (subst (λ (v : ProcessView). HasMoved S p.who i.caller.seen e.seen v.state (requests.Exec name args) moved.Done) (sym w.ensures.state)
    (run_made S i.caller.seen p.who n p.state name args o.idle o.some q.name line x.what r.seen f.new.caller.seen finds
    x.seen s.new.caller.seen s.result.0 s.ensures.at.place loads p.seen e.seen runs))
