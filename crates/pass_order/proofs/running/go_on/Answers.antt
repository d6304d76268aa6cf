use Rattle.std.proofs.Common.{arith, subst}
use Rattle.std.proofs.lemmas.Option.{slice_get_within}
use Rattle.pass_trace.specs.TraceLines.{plain_trace}
use Rattle.pass_order.specs.Queues.{IsAfterTry}
use Rattle.pass_order.proofs.Ending.{done_so, failed_so, stuck_so}
use Rattle.pass_order.proofs.Joining.{going_knows}
use Rattle.pass_order.proofs.Performing.{made_on}
use Rattle.pass_order.proofs.Rooming.{few_walkers}
use Rattle.pass_order.proofs.Taking.{set_again}
use Rattle.pass_order.proofs.running.go_on.Goals as goal

pub are_still-requires-clause-last : goal.are_still-requires-clause-last
are_still-requires-clause-last g c =
    let set = (subst (λ t. IsAfterTry g.J.Whose.book.session g.J.Whose.places (plain_trace c.args.ground.now.plan.now) t c.try_next.new.self) c.in-Nothing.is c.try_next.ensures.goes).0 in
    let (w, at, is) = set.queued.last_at in
    slice_get_within c.try_next.new.self.walkers.items c.try_next.new.self.last w at

pub are_still-requires-clause-knows : goal.are_still-requires-clause-knows
are_still-requires-clause-knows g c i w at =
    let set = (subst (λ t. IsAfterTry g.J.Whose.book.session g.J.Whose.places (plain_trace c.args.ground.now.plan.now) t c.try_next.new.self) c.in-Nothing.is c.try_next.ensures.goes).0 in
    going_knows g.J.Whose.book.session (plain_trace c.args.ground.now.plan.now) w (set.queued.going i w at)

pub begin_again-requires : goal.begin_again-requires
begin_again-requires g c =
    let set = (subst (λ t. IsAfterTry g.J.Whose.book.session g.J.Whose.places (plain_trace c.args.ground.now.plan.now) t c.try_next.new.self) c.in-Nothing.is c.try_next.ensures.goes).0 in
    let few = few_walkers (plain_trace c.args.ground.now.plan.now) c.try_next.new.self.walkers.items in
    let most = set.roomy.few in
    let room = set.roomy.due in
    omega (arith, few, most, room)

pub returns-then-have_ended-clause-goes : goal.returns-then-have_ended-clause-goes
returns-then-have_ended-clause-goes g c =
    let set = (subst (λ t. IsAfterTry g.J.Whose.book.session g.J.Whose.places (plain_trace c.args.ground.now.plan.now) t c.try_next.new.self) c.in-Nothing.is c.try_next.ensures.goes).0 in
    done_so g.J.Whose.book.session g.J.Whose.places (plain_trace c.args.ground.now.plan.now) c.try_next.new.self set (c.have_ended.ensures c.if-have_ended.true)

pub returns-then-are_still-clause-goes : goal.returns-then-are_still-clause-goes
returns-then-are_still-clause-goes g c =
    let both = subst (λ t. IsAfterTry g.J.Whose.book.session g.J.Whose.places (plain_trace c.args.ground.now.plan.now) t c.try_next.new.self) c.in-Nothing.is c.try_next.ensures.goes in
    let (count, still) = c.are_still.ensures c.if-are_still.true in
    stuck_so g.J.Whose.book.session g.J.Whose.places (plain_trace c.args.ground.now.plan.now) c.try_next.new.self both.0 both.1 count still

pub returns-else-are_still-clause-goes : goal.returns-else-are_still-clause-goes
returns-else-are_still-clause-goes g c =
    let set = (subst (λ t. IsAfterTry g.J.Whose.book.session g.J.Whose.places (plain_trace c.args.ground.now.plan.now) t c.try_next.new.self) c.in-Nothing.is c.try_next.ensures.goes).0 in
    set_again (plain_trace c.args.ground.now.plan.now) c.try_next.new.self c.begin_again.new.self set.roomy c.begin_again.ensures g.J.Whose.book.session set.upto set.tries set.queued set.heap

pub returns-in-Waits-clause-goes : goal.returns-in-Waits-clause-goes
returns-in-Waits-clause-goes g c =
    subst (λ t. IsAfterTry g.J.Whose.book.session g.J.Whose.places (plain_trace c.args.ground.now.plan.now) t c.try_next.new.self) c.in-Waits.is c.try_next.ensures.goes

pub returns-in-Failed-clause-goes : goal.returns-in-Failed-clause-goes
returns-in-Failed-clause-goes g c =
    let both = subst (λ t. IsAfterTry g.J.Whose.book.session g.J.Whose.places (plain_trace c.args.ground.now.plan.now) t c.try_next.new.self) c.in-Failed.is c.try_next.ensures.goes in
    failed_so g.J.Whose.book.session g.J.Whose.places (plain_trace c.args.ground.now.plan.now) c.try_next.new.self.walkers.items c.in-Failed.cause both.0 both.1

pub returns-in-Made-clause-goes : goal.returns-in-Made-clause-goes
returns-in-Made-clause-goes g c =
    let set = subst (λ t. IsAfterTry g.J.Whose.book.session g.J.Whose.places (plain_trace c.args.ground.now.plan.now) t c.try_next.new.self) c.in-Made.is c.try_next.ensures.goes in
    made_on g.J.Whose.book.session g.J.Whose.places (plain_trace c.args.ground.now.plan.now) c.try_next.new.self set c.trickled.result c.trickled.ensures.fails
