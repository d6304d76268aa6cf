use Rattle.std.proofs.Common.{List, length, subst, sym, ◌<◌}
use Rattle.pass_trace.specs.declared.trace.TraceLine.{TraceLine}
use Rattle.pass_walk.proofs.plan.Plan.next.Goals as goal
use Rattle.pass_walk.proofs.Planned.{next_within}

pub next-requires : goal.next-requires
next-requires c =
    next_within c.self.inside.lines.now c.self.inside.places c.self.invariant.1 c.args.place (subst (λ (ls : List TraceLine). c.args.place < length ls) (sym c.self.view_is) c.requires)
