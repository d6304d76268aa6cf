use Rattle.std.proofs.Common.{◌≡◌, ◌∙◌, ap, refl, subst, sym}
use Rattle.std.specs.Prelude.{Option, Some, None, IfSome}
use Rattle.pass_trace.specs.TraceLines.{plain_trace}
use Rattle.pass_sched.specs.declared.task.Turn.TheVariants as turn
use Rattle.pass_walk.specs.declared.walker.Outcome.{Outcome}
use Rattle.pass_walk.specs.declared.walker.Outcome.TheVariants as outcomes
use Rattle.pass_walk.specs.declared.walker.Walker.{Walker}
use Rattle.pass_walk.specs.declared.walker.Walker.TheVariants as kinds
use Rattle.pass_walk.specs.declared.walker.Went.{Went}
use Rattle.pass_walk.specs.Outcomes.{HasMade, left_as}
use Rattle.pass_walk.specs.Walkers.{WalkerWent}
use Rattle.pass_walk.proofs.walker.step.Goals as goal

made_as : (r : Option Outcome) (P : Outcome → Type 0) → IfSome r P → (o found : Outcome) → r ≡ Some found → found ≡ o → P o
made_as r P made o found is so = let Q : Option Outcome → Type 0 = λ r. IfSome r P in subst P so (subst Q is made)

pub leave-requires : goal.leave-requires
leave-requires g c = (c.step.new.self, refl)

pub returns-in-Some-Goes-clause-went : goal.returns-in-Some-Goes-clause-went
returns-in-Some-Goes-clause-went g c =
    let session = g.J.Whose.book.session in
    let places = g.J.Whose.places in
    let trace = plain_trace c.args.ground.now.plan.now in
    let w : Went g.row.J.Denot = record { walker = kinds.Living c.step.new.self; answer = turn.Moved; kid = None } in
    subst (λ (v : Walker g.row.J.Denot). WalkerWent session places trace v w) (sym c.in-Living.is)
    (made_as c.step.result (λ o. HasMade session places trace c.in-Living.living o c.step.new.self) c.step.ensures.made outcomes.Goes c.in-Some-Goes.field-0 c.in-Some-Goes.is c.in-Some-Goes.field-0-is w refl)

pub returns-in-Some-Waits-clause-went : goal.returns-in-Some-Waits-clause-went
returns-in-Some-Waits-clause-went g c =
    let session = g.J.Whose.book.session in
    let places = g.J.Whose.places in
    let trace = plain_trace c.args.ground.now.plan.now in
    let w : Went g.row.J.Denot = record { walker = kinds.Living c.step.new.self; answer = turn.Waiting; kid = None } in
    subst (λ (v : Walker g.row.J.Denot). WalkerWent session places trace v w) (sym c.in-Living.is)
    (made_as c.step.result (λ o. HasMade session places trace c.in-Living.living o c.step.new.self) c.step.ensures.made outcomes.Waits c.in-Some-Waits.field-0 c.in-Some-Waits.is c.in-Some-Waits.field-0-is w refl)

pub returns-in-Some-Fails-clause-went : goal.returns-in-Some-Fails-clause-went
returns-in-Some-Fails-clause-went g c =
    let session = g.J.Whose.book.session in
    let places = g.J.Whose.places in
    let trace = plain_trace c.args.ground.now.plan.now in
    let cause = c.in-Some-Fails.cause in
    let l = c.step.new.self in
    let w : Went g.row.J.Denot = record { walker = c.leave.new.walker; answer = turn.Failed; kid = None } in
    let left = c.leave.ensures l refl ∙ ap (λ n. kinds.Left (left_as l n cause)) c.left_to-left.ensures in
    subst (λ (v : Walker g.row.J.Denot). WalkerWent session places trace v w) (sym c.in-Living.is)
    (made_as c.step.result (λ o. HasMade session places trace c.in-Living.living o l) c.step.ensures.made (outcomes.Fails cause) c.in-Some-Fails.field-0 c.in-Some-Fails.is c.in-Some-Fails.field-0-is w
    (ap (λ (v : Walker g.row.J.Denot). record { walker = v; answer = turn.Failed; kid = None }) left))
