use Rattle.std.proofs.Common.{subst}
use Rattle.pass_trace.specs.TraceLines.{plain_trace}
use Rattle.pass_order.specs.Queues.{IsGoingOrGone}
use Rattle.pass_order.proofs.Joining.{joined_ended, joined_living, joined_none}
use Rattle.pass_order.proofs.queue.come_on.Goals as goal

pub join_living-requires-clause-other : goal.join_living-requires-clause-other
join_living-requires-clause-other g c = subst (λ w. IsGoingOrGone g.J.Whose.book.session (plain_trace c.args.ground.now.plan.now) w) c.in-Living.is c.requires.last

pub returns-in-Living : goal.returns-in-Living
returns-in-Living g c =
    joined_living g.J.Whose.book.session (plain_trace c.args.ground.now.plan.now) c.args.living.now c.join_living.new.self c.in-Living.other c.join_living.new.other c.args.last.now c.in-Living.is
    c.join_living.ensures.first c.join_living.ensures.other c.join_living.ensures.one

pub returns-in-Ended : goal.returns-in-Ended
returns-in-Ended g c =
    joined_ended g.J.Whose.book.session (plain_trace c.args.ground.now.plan.now) c.args.living.now c.join.new.self c.in-Ended.ended c.join.new.ended c.args.last.now c.in-Ended.is
    c.join.ensures.living c.join.ensures.ended c.join.ensures.one

pub returns-in_default : goal.returns-in_default
returns-in_default g c =
    joined_none g.J.Whose.book.session (plain_trace c.args.ground.now.plan.now) c.args.living.now c.args.last.now c.requires.last c.in_default.not-Living c.in_default.not-Ended
