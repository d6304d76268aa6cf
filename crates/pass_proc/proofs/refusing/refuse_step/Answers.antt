use Rattle.std.proofs.Common.{sym, subst}
use Rattle.pass_entry.specs.declared.entry.Act.TheVariants as act
use Rattle.pass_entry.specs.declared.entry.CallName.{CallName}
use Rattle.pass_entry.specs.declared.entry.Reply.TheVariants as answer
use Rattle.pass_hold.specs.Callings.{IsEntered, IsIdle}
use Rattle.pass_hold.specs.Entering.{MayEnter}
use Rattle.pass_proc.specs.Acts.{own_entry}
use Rattle.pass_proc.specs.Views.{ProcessView}
use Rattle.pass_proc.proofs.Denials.{deny_may, denied_call, denied_idle}
use Rattle.pass_proc.proofs.refusing.refuse_step.Goals as goal

pub deny-requires-clause-entry : goal.deny-requires-clause-entry
deny-requires-clause-entry g c =
    let a = c.args in
    let q = c.requires in
    subst (λ (n : CallName). MayEnter a.caller.now.seen (own_entry a.process.now.who a.number n (act.Deny a.ask) (answer.Fault a.fault)) 0) q.some.named
    (deny_may g.J.Whose.book.session a.caller.now.seen a.process.now.who a.number a.process.now.state q.some.request a.ask a.fault q.idle q.number q.refused q.some.asked q.some.within)

pub returns-clause-call : goal.returns-clause-call
returns-clause-call g c = λ r named asked within.
    let a = c.args in
    let q = c.requires in
    denied_call g.J.Whose.book.session a.caller.now.seen a.process.now.who a.number a.process.now.state r a.ask a.fault q.idle q.number q.refused asked within a.process.now.seen c.deny.new.caller.seen
    (subst (λ (n : CallName). IsEntered g.J.Whose.book.session a.caller.now.seen a.process.now.seen c.deny.new.caller.seen (own_entry a.process.now.who a.number n (act.Deny a.ask) (answer.Fault a.fault))) (sym named) c.deny.ensures.entry.entered)

pub returns-clause-idle : goal.returns-clause-idle
returns-clause-idle g c =
    let a = c.args in
    let q = c.requires in
    subst (λ (v : ProcessView). IsIdle g.J.Whose.book.session c.deny.new.caller.seen v.who a.number v.state) (sym c.deny.ensures.same)
    (denied_idle g.J.Whose.book.session a.caller.now.seen a.process.now.who a.number a.process.now.state q.some.request a.ask a.fault q.idle q.number q.refused q.some.asked q.some.within a.process.now.seen c.deny.new.caller.seen
    (subst (λ (n : CallName). IsEntered g.J.Whose.book.session a.caller.now.seen a.process.now.seen c.deny.new.caller.seen (own_entry a.process.now.who a.number n (act.Deny a.ask) (answer.Fault a.fault))) (sym q.some.named) c.deny.ensures.entry.entered))
