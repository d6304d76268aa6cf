use Rattle.std.proofs.Common.{subst}
use Rattle.pass_trace.specs.TraceLines.{plain_trace}
use Rattle.pass_walk.specs.Walkers.{IsWalkerOf}
use Rattle.pass_turns.proofs.task.TurnerTask.left.Goals as goal

pub left-requires : goal.left-requires
left-requires g c =
    let is = subst (λ w. IsWalkerOf g.J.Whose.book.session g.J.Whose.places (plain_trace c.self.inside.ground.now.plan.now) w) c.in-Living.is c.self.invariant.0 in (is.done, is.line)
