use Rattle.std.proofs.Common.{ap, sym, subst, arith}
use Rattle.pass_hold.specs.Callings.{IsIdle}
use Rattle.pass_plain.specs.Places.{call_places}
use Rattle.pass_proc.specs.Views.{ProcessView}
use Rattle.pass_answer.specs.Answers.{HasMoved}
use Rattle.pass_plain.specs.declared.request.Request.TheVariants as requests
use Rattle.pass_answer.specs.declared.answer.Moved.TheVariants as moved
use Rattle.pass_safe.proofs.Committing.{kept_may, keeping_holds, synced_moved, synced_idle}
use Rattle.pass_safe.proofs.ending.kept_step.Goals as goal

pub kept-requires-clause-place : goal.kept-requires-clause-place
kept-requires-clause-place g c =
    let a = c.args in
    let k = c.requires.kept in
    let some = keeping_holds g.J.Whose.book.session a.process.now.who a.number k.0 a.caller.now.seen a.fd k.1 a.process.now.state k.2 k.3 in
    let held = c.held-held.ensures.call in
    let same = ap (call_places a.caller.now.seen) c.requires.who in
    omega (arith, some, held, same)

pub kept-requires-clause-entry : goal.kept-requires-clause-entry
kept-requires-clause-entry g c =
    let a = c.args in
    let k = c.requires.kept in
    kept_may g.J.Whose.book.session a.process.now.who a.number k.0 a.caller.now.seen a.fd k.1 a.process.now.state k.2 k.3

pub returns-clause-call : goal.returns-clause-call
returns-clause-call g c = λ before what place calls entries kept above.
    let a = c.args in
    subst (λ (v : ProcessView). HasMoved g.J.Whose.book.session a.process.now.who before c.kept.new.caller.seen v.state (requests.Sync a.fd) (moved.Synced calls entries)) (sym c.kept.ensures.same)
    (synced_moved g.J.Whose.book.session a.process.now.who a.number before a.caller.now.seen a.fd what a.process.now.state place kept a.process.now.seen c.kept.new.caller.seen c.kept.ensures.entry.entered calls entries above)

pub returns-clause-idle : goal.returns-clause-idle
returns-clause-idle g c =
    let a = c.args in
    let k = c.requires.kept in
    subst (λ (v : ProcessView). IsIdle g.J.Whose.book.session c.kept.new.caller.seen v.who a.number v.state) (sym c.kept.ensures.same)
    (synced_idle g.J.Whose.book.session a.process.now.who a.number k.0 a.caller.now.seen a.fd k.1 a.process.now.state k.2 k.3 a.process.now.seen c.kept.new.caller.seen c.kept.ensures.entry.entered)
