use Rattle.std.proofs.Common.{subst}
use Rattle.pass_turns.specs.Turners.{IsKnown}
use Rattle.pass_turns.proofs.task.Turner.into_trail.Goals as goal
use Rattle.pass_turns.proofs.Knowing.{known}

pub returns-in-Living-clause-known : goal.returns-in-Living-clause-known
returns-in-Living-clause-known g c =
    subst (IsKnown g.J.Whose.book.session g.J.Whose.places) c.self.view_is (known g.J.Whose.book.session g.J.Whose.places c.self.inside.ground.now.plan.now c.self.inside.walker c.self.inside.turns c.self.inside.last c.self.inside.waits c.self.invariant.0)

pub returns-in-Ended-clause-known : goal.returns-in-Ended-clause-known
returns-in-Ended-clause-known g c =
    subst (IsKnown g.J.Whose.book.session g.J.Whose.places) c.self.view_is (known g.J.Whose.book.session g.J.Whose.places c.self.inside.ground.now.plan.now c.self.inside.walker c.self.inside.turns c.self.inside.last c.self.inside.waits c.self.invariant.0)

pub returns-in-Left-clause-known : goal.returns-in-Left-clause-known
returns-in-Left-clause-known g c =
    subst (IsKnown g.J.Whose.book.session g.J.Whose.places) c.self.view_is (known g.J.Whose.book.session g.J.Whose.places c.self.inside.ground.now.plan.now c.self.inside.walker c.self.inside.turns c.self.inside.last c.self.inside.waits c.self.invariant.0)
