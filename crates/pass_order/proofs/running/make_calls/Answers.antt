use Rattle.std.proofs.Common.{arith, subst}
use Rattle.pass_trace.specs.TraceLines.{plain_trace}
use Rattle.pass_order.specs.Queues.{GoesOnOrEnds}
use Rattle.pass_order.proofs.running.make_calls.Goals as goal

pub returns-in-Some-go_on-clause-played : goal.returns-in-Some-go_on-clause-played
returns-in-Some-go_on-clause-played g c =
    subst (λ r. GoesOnOrEnds g.J.Whose.book.session g.J.Whose.places (plain_trace c.args.ground.now.plan.now) r c.go_on.new.queue) c.in-Some-go_on.is c.go_on.ensures.goes

pub loop-preserved : goal.loop-preserved
loop-preserved g c = record {
  set = subst (λ r. GoesOnOrEnds g.J.Whose.book.session g.J.Whose.places (plain_trace c.args.ground.now.plan.now) r c.go_on.new.queue) c.in_default.is c.go_on.ensures.goes;
  few = c.go_on.ensures.few;
  room = omega (arith, c.go_on.ensures.room, c.loop.invariant.room);
}
