use Rattle.std.proofs.Common.{◌∙◌, sym, subst}
use Rattle.pass_plain.proofs.Lists.{same_numbers}
use Rattle.pass_turns.specs.Turners.{IsStill}
use Rattle.pass_turns.proofs.task.Turner.is_still.Goals as goal
use Rattle.pass_turns.proofs.Knowing.{still_walker}

pub returns-then-self : goal.returns-then-self
returns-then-self g c same =
    subst (λ t. IsStill g.J.Whose.book.session c.args.count t) c.self.view_is
    (still_walker c.args.count g.J.Whose.book.session c.self.inside.ground.now.plan.now c.self.inside.walker c.self.inside.turns c.self.inside.last c.self.inside.waits c.in-Living.living c.in-Living.is
    c.self.invariant.2 c.if-self.true (sym c.seen.ensures ∙ same_numbers c.seen.result c.args.count same))
