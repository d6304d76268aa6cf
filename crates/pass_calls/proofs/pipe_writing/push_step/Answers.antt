use Rattle.std.proofs.Common.{length, sym, subst, refl}
use Rattle.std.specs.Prelude.{take}
use Rattle.pass_entry.specs.declared.entry.Reply.TheVariants as answer
use Rattle.pass_plain.specs.declared.request.Request.TheVariants as requests
use Rattle.pass_plain.specs.Processes.{process_after}
use Rattle.pass_hold.specs.Callings.{IsEntered}
use Rattle.pass_hold.specs.Entering.{MayEnter}
use Rattle.pass_pipe.specs.Desks.{push_entry}
use Rattle.pass_answer.specs.Answers.{HasMoved}
use Rattle.pass_answer.specs.declared.answer.Moved.TheVariants as moved
use Rattle.pass_calls.proofs.PipeWrites.{push_may, pushed_idle, pushed_moved, pushed_reply, seen_grows}
use Rattle.pass_calls.proofs.pipe_writing.push_step.Goals as goal

pub push-requires-clause-entry : goal.push-requires-clause-entry
push-requires-clause-entry g c = λ reply.
    let a = c.args in
    let q = c.requires in
    let before = take a.way.out a.caller.now.seen in
    subst (λ o. MayEnter a.caller.now.seen (push_entry c.pnode-who.result a.number o a.way.out a.way.bytes reply) 0) (sym q.object)
    (subst (λ w. MayEnter a.caller.now.seen (push_entry w a.number a.way.to.pnode a.way.out a.way.bytes reply) 0) (sym c.pnode-who.ensures)
    (push_may g.J.Whose.book.session a.process.now.who a.number a.way a.caller.now.seen a.process.now.state q.under before (process_after before a.process.now.who) q.under.going reply))

pub returns-in-Ok-clause-call : goal.returns-in-Ok-clause-call
returns-in-Ok-clause-call g c = λ before p going.
    let a = c.args in
    let q = c.requires in
    let S = g.J.Whose.book.session in
    let after = c.push.new.caller.seen in
    let node = c.in-Ok.pushed.1 in
    subst (λ bytes. HasMoved S a.process.now.who before after a.process.now.state (requests.Write a.way.fd a.way.bytes) (moved.Wrote (length bytes) node)) (sym c.as_bytes.ensures.bytes)
    (pushed_moved S a.process.now.who a.number a.way a.caller.now.seen a.process.now.state q.under before p going a.pipe.now.seen after answer.Done
    (subst (λ o. IsEntered S a.caller.now.seen a.pipe.now.seen after (push_entry a.process.now.who a.number o a.way.out a.way.bytes answer.Done)) q.object
    (subst (λ w. IsEntered S a.caller.now.seen a.pipe.now.seen after (push_entry w a.number a.pipe.now.what a.way.out a.way.bytes answer.Done)) c.pnode-who.ensures c.in-Ok.ensures.entry.entered))
    c.in-Ok.pushed.0 node refl c.in-Ok.ensures.at.place c.in-Ok.ensures.at.node)

pub returns-in-Ok-clause-idle : goal.returns-in-Ok-clause-idle
returns-in-Ok-clause-idle g c =
    let a = c.args in
    let q = c.requires in
    let S = g.J.Whose.book.session in
    let after = c.push.new.caller.seen in
    let before = take a.way.out a.caller.now.seen in
    pushed_idle S a.process.now.who a.number a.way a.caller.now.seen a.process.now.state q.under before (process_after before a.process.now.who) q.under.going a.pipe.now.seen after answer.Done
    (subst (λ o. IsEntered S a.caller.now.seen a.pipe.now.seen after (push_entry a.process.now.who a.number o a.way.out a.way.bytes answer.Done)) q.object
    (subst (λ w. IsEntered S a.caller.now.seen a.pipe.now.seen after (push_entry w a.number a.pipe.now.what a.way.out a.way.bytes answer.Done)) c.pnode-who.ensures c.in-Ok.ensures.entry.entered))

pub returns-in-Err-clause-call : goal.returns-in-Err-clause-call
returns-in-Err-clause-call g c = λ before p going.
    let a = c.args in
    let q = c.requires in
    let S = g.J.Whose.book.session in
    let after = c.push.new.caller.seen in
    let fault = c.in-Err.fault in
    pushed_reply S a.process.now.who a.number a.way a.caller.now.seen a.process.now.state q.under before p going a.pipe.now.seen after (answer.Fault fault)
    (subst (λ o. IsEntered S a.caller.now.seen a.pipe.now.seen after (push_entry a.process.now.who a.number o a.way.out a.way.bytes (answer.Fault fault))) q.object
    (subst (λ w. IsEntered S a.caller.now.seen a.pipe.now.seen after (push_entry w a.number a.pipe.now.what a.way.out a.way.bytes (answer.Fault fault))) c.pnode-who.ensures c.in-Err.ensures.entry.entered))

pub returns-in-Err-clause-idle : goal.returns-in-Err-clause-idle
returns-in-Err-clause-idle g c =
    let a = c.args in
    let q = c.requires in
    let S = g.J.Whose.book.session in
    let after = c.push.new.caller.seen in
    let fault = c.in-Err.fault in
    let before = take a.way.out a.caller.now.seen in
    pushed_idle S a.process.now.who a.number a.way a.caller.now.seen a.process.now.state q.under before (process_after before a.process.now.who) q.under.going a.pipe.now.seen after (answer.Fault fault)
    (subst (λ o. IsEntered S a.caller.now.seen a.pipe.now.seen after (push_entry a.process.now.who a.number o a.way.out a.way.bytes (answer.Fault fault))) q.object
    (subst (λ w. IsEntered S a.caller.now.seen a.pipe.now.seen after (push_entry w a.number a.pipe.now.what a.way.out a.way.bytes (answer.Fault fault))) c.pnode-who.ensures c.in-Err.ensures.entry.entered))

pub returns-in-Ok-clause-grows : goal.returns-in-Ok-clause-grows
returns-in-Ok-clause-grows g c =
    let a = c.args in
    seen_grows g.J.Whose.book.session a.caller.now.seen a.pipe.now.seen c.push.new.caller.seen (push_entry c.pnode-who.result a.number a.pipe.now.what a.way.out a.way.bytes answer.Done) c.in-Ok.ensures.entry.entered

pub returns-in-Err-clause-grows : goal.returns-in-Err-clause-grows
returns-in-Err-clause-grows g c =
    let a = c.args in
    seen_grows g.J.Whose.book.session a.caller.now.seen a.pipe.now.seen c.push.new.caller.seen
    (push_entry c.pnode-who.result a.number a.pipe.now.what a.way.out a.way.bytes (answer.Fault c.in-Err.fault)) c.in-Err.ensures.entry.entered
