use Rattle.pass_trace.specs.TraceLines.{plain_trace}
use Rattle.pass_walk.proofs.walker.Living.join_living.Goals as goal
use Rattle.pass_walk.proofs.Meetings.{come_on}

pub returns-clause-first : goal.returns-clause-first
returns-clause-first g c =
    come_on g.J.Whose.book.session (plain_trace c.args.ground.now.plan.now) c.calls.ensures.still c.calls.ensures.look c.answers.ensures.unmade c.standing.ensures.under_way c.standing.ensures.looked c.ordered.ensures c.args.self.now c.requires.first
    c.between.ensures c.meet.new.first c.meet.ensures.first

pub returns-clause-other : goal.returns-clause-other
returns-clause-other g c =
    come_on g.J.Whose.book.session (plain_trace c.args.ground.now.plan.now) c.calls.ensures.still c.calls.ensures.look c.answers.ensures.unmade c.standing.ensures.under_way c.standing.ensures.looked c.ordered.ensures c.args.other.now c.requires.other
    c.between-2.ensures c.meet.new.second c.meet.ensures.second
