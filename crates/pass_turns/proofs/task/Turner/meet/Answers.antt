use Rattle.std.proofs.Common.{◌≡◌, ap, subst, ◌∙◌, false, true}
use Rattle.pass_turns.specs.Meetings.{IsLater}
use Rattle.pass_turns.specs.Tasks.{task_of}
use Rattle.pass_turns.specs.Turners.{TurnerState}
use Rattle.pass_turns.proofs.task.Turner.meet.Goals as goal
use Rattle.pass_trace.specs.TraceLines.{plain_trace}
use Rattle.pass_turns.proofs.MetTasks.{met_so}
use Rattle.pass_walk.proofs.MetWalkers.{knows}

pub met-requires-clause-other : goal.met-requires-clause-other
met-requires-clause-other g c = knows g.J.Whose.book.session g.J.Whose.places (plain_trace c.other.inside.ground.now.plan.now) c.other.inside.walker c.other.invariant.0

pub returns-clause-first : goal.returns-clause-first
returns-clause-first g c =
    let session = g.J.Whose.book.session in
    let places = g.J.Whose.places in
    let lines = c.self.inside.ground.now.plan.now in
    let others = c.other.inside.ground.now.plan.now in
    let so = met_so session places lines others c.self.inside.walker c.other.inside.walker (c.met.new.first, c.met.new.other) c.met.ensures c.self.invariant.0 c.other.invariant.0 in
    subst (λ (before : TurnerState). IsLater before (task_of lines c.met.new.first c.self.inside.turns c.self.inside.last false)) c.self.view_is (so.first c.self.inside.turns c.self.inside.last c.self.inside.waits)

pub returns-clause-other : goal.returns-clause-other
returns-clause-other g c =
    let session = g.J.Whose.book.session in
    let places = g.J.Whose.places in
    let lines = c.self.inside.ground.now.plan.now in
    let others = c.other.inside.ground.now.plan.now in
    let so = met_so session places lines others c.self.inside.walker c.other.inside.walker (c.met.new.first, c.met.new.other) c.met.ensures c.self.invariant.0 c.other.invariant.0 in
    subst (λ (before : TurnerState). IsLater before (task_of others c.met.new.other c.other.inside.turns c.other.inside.last false)) c.other.view_is (so.second c.other.inside.turns c.other.inside.last c.other.inside.waits)

pub returns-clause-met : goal.returns-clause-met
returns-clause-met g c =
    let session = g.J.Whose.book.session in
    let places = g.J.Whose.places in
    let lines = c.self.inside.ground.now.plan.now in
    let others = c.other.inside.ground.now.plan.now in
    let so = met_so session places lines others c.self.inside.walker c.other.inside.walker (c.met.new.first, c.met.new.other) c.met.ensures c.self.invariant.0 c.other.invariant.0 in
    so.met (ap (λ (t : TurnerState). t.ended) c.self.view_is ∙ c.requires.living.0) (ap (λ (t : TurnerState). t.cause) c.self.view_is ∙ c.requires.living.1)

pub invariant_of-self : goal.invariant_of-self
invariant_of-self g c =
    let session = g.J.Whose.book.session in
    let places = g.J.Whose.places in
    let lines = c.self.inside.ground.now.plan.now in
    let others = c.other.inside.ground.now.plan.now in
    let so = met_so session places lines others c.self.inside.walker c.other.inside.walker (c.met.new.first, c.met.new.other) c.met.ensures c.self.invariant.0 c.other.invariant.0 in
    (so.first_is, c.self.invariant.1, λ h. absurd (let z : false ≡ true = h in cc))

pub invariant_of-other : goal.invariant_of-other
invariant_of-other g c =
    let session = g.J.Whose.book.session in
    let places = g.J.Whose.places in
    let lines = c.self.inside.ground.now.plan.now in
    let others = c.other.inside.ground.now.plan.now in
    let so = met_so session places lines others c.self.inside.walker c.other.inside.walker (c.met.new.first, c.met.new.other) c.met.ensures c.self.invariant.0 c.other.invariant.0 in
    (so.second_is, c.other.invariant.1, λ h. absurd (let z : false ≡ true = h in cc))
