use Rattle.std.proofs.Common.{arith}
use Rattle.pass_trace.specs.TraceLines.{plain_trace}
use Rattle.pass_order.proofs.Taking.{popped, unpopped}
use Rattle.pass_order.proofs.queue.Queue.try_next.Goals as goal

pub try_at-requires : goal.try_at-requires
try_at-requires g c =
    popped g.J.Whose.book.session (plain_trace c.args.ground.now.plan.now) c.args.self.now c.requires c.in-Some.standing c.pop.new.self c.in-Some.ensures.permutation (λ h. ((c.in-Some.ensures.heap_order h).0, c.in-Some.ensures.below_top h)) c.in-Some.ensures.len c.in-Some.ensures.capacity

pub returns-in-None-clause-goes : goal.returns-in-None-clause-goes
returns-in-None-clause-goes g c =
    unpopped g.J.Whose.book.session (plain_trace c.args.ground.now.plan.now) c.args.self.now c.requires c.pop.new.self c.in-None.ensures.unchanged.0 c.in-None.ensures.unchanged.1 c.in-None.ensures.capacity
    (omega (arith, c.in-None.ensures.none, c.args.self.now.due.data.ok.0))
