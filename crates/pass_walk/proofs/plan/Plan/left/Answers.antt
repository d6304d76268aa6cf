use Rattle.std.proofs.Common.{List, ap, arith, length, subst, sym}
use Rattle.pass_trace.specs.TraceLines.{plain_trace}
use Rattle.pass_trace.specs.declared.trace.TraceLine.{TraceLine}
use Rattle.pass_replay.specs.Lines.{IsLineAt}
use Rattle.pass_walk.proofs.plan.Plan.left.Goals as goal
use Rattle.pass_walk.proofs.Planned.{left_within}

pub left_from-requires : goal.left_from-requires
left_from-requires c =
    let at = subst (λ (ls : List TraceLine). IsLineAt (plain_trace ls) c.args.process c.requires.0 c.args.line) (sym c.self.view_is) c.requires.1 in
    let within = left_within (plain_trace c.self.inside.lines.now) c.self.inside.lefts.items c.self.invariant.2 c.args.process c.requires.0 c.args.line c.in-Some.place c.in-Some.is at in
    let same = ap length c.as_slice.ensures.value in
    omega (arith, within, same)
