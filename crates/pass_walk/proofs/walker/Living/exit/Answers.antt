use Rattle.pass_trace.specs.TraceLines.{plain_trace}
use Rattle.pass_walk.proofs.walker.Living.exit.Goals as goal
use Rattle.pass_walk.proofs.Exits.{exited}

pub returns : goal.returns
returns g c =
    exited g.J.Whose.book.session g.J.Whose.places (plain_trace c.args.ground.now.plan.now) c.ordered.ensures c.args.self c.requires.living c.requires.line c.lives.ensures.birth c.lives.ensures.exit c.between.ensures
    c.retire-trail.result c.retire-trail.ensures.call.0 c.retire-trail.ensures.call.1 c.retire-trail.ensures.who
