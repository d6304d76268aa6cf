use Rattle.std.proofs.Common.{sym, subst, ℕ}
use Rattle.pass_hold.specs.Callings.{IsEntered}
use Rattle.pass_hold.specs.Entering.{MayEnter}
use Rattle.pass_flow.specs.Flows.{keep_entry}
use Rattle.pass_safe.proofs.Committing.{keep_may, first_kept, keeping_idle}
use Rattle.pass_safe.proofs.keeping.keep_step.Goals as goal

pub keep-place-requires-clause-entry : goal.keep-place-requires-clause-entry
keep-place-requires-clause-entry g c =
    let a = c.args in
    let q = c.requires in
    let what = (g.V.Versioned.object a.object.now).what in
    subst (λ (w : ℕ). MayEnter a.caller.now.seen (keep_entry w a.number what) 2) (sym c.pnode.ensures)
    (keep_may g.J.Whose.book.session a.caller.now.seen a.process.now.who a.number a.process.now.state a.fd what q.idle q.number q.free q.fd q.object)

pub returns-clause-kept : goal.returns-clause-kept
returns-clause-kept g c =
    let a = c.args in
    let q = c.requires in
    let S = g.J.Whose.book.session in
    let seen = (g.V.Versioned.object a.object.now).seen in
    let what = (g.V.Versioned.object a.object.now).what in
    first_kept S a.caller.now.seen a.process.now.who a.number a.process.now.state a.fd what q.idle q.number q.free q.fd q.object seen c.keep-place.new.caller.seen c.keep-place.result.0 c.keep-place.ensures.at.place
    (subst (λ (w : ℕ). IsEntered S a.caller.now.seen seen c.keep-place.new.caller.seen (keep_entry w a.number what)) c.pnode.ensures c.keep-place.ensures.entry.entered)

pub returns-clause-idle : goal.returns-clause-idle
returns-clause-idle g c =
    let a = c.args in
    let q = c.requires in
    let S = g.J.Whose.book.session in
    let seen = (g.V.Versioned.object a.object.now).seen in
    let what = (g.V.Versioned.object a.object.now).what in
    keeping_idle S a.process.now.who a.number a.caller.now.seen c.keep-place.new.caller.seen a.fd what a.process.now.state c.keep-place.result.0
    (first_kept S a.caller.now.seen a.process.now.who a.number a.process.now.state a.fd what q.idle q.number q.free q.fd q.object seen c.keep-place.new.caller.seen c.keep-place.result.0 c.keep-place.ensures.at.place
    (subst (λ (w : ℕ). IsEntered S a.caller.now.seen seen c.keep-place.new.caller.seen (keep_entry w a.number what)) c.pnode.ensures c.keep-place.ensures.entry.entered))
