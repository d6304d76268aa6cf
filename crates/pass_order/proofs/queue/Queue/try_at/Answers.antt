use Rattle.std.proofs.Common.{◌∙◌, ap, arith, refl, sym}
use Rattle.pass_trace.specs.TraceLines.{plain_trace}
use Rattle.std.specs.Vec.{with_item}
use Rattle.pass_order.specs.Queues.{tried_of}
use Rattle.pass_order.proofs.Meeting.{length_set}
use Rattle.pass_order.proofs.Taking.{its_living, living_so}
use Rattle.pass_order.proofs.Trying.{again_ok, due_ok, joined_lives, last_goes, last_within, late_ok, made_ok, made_room, place_ok, room_ok, stays_ok, walkers_ok}
use Rattle.pass_order.proofs.queue.Queue.try_at.Goals as goal

pub take-living-requires : goal.take-living-requires
take-living-requires g c = its_living g.J.Whose.book.session (plain_trace c.args.ground.now.plan.now) c.args.standing c.args.self.now c.requires

pub index_mut-requires : goal.index_mut-requires
index_mut-requires g c =
    let a = last_within g.J.Whose.book.session g.J.Whose.places (plain_trace c.args.ground.now.plan.now) c.args.standing c.args.self.now c.requires c.take-living.new.self c.take-living.ensures.gone c.take-living.ensures.rest
    c.take-living.ensures.room in
    omega (arith, a, c.take-living.new.self.walkers.ok.0)

pub come_on-requires-clause-living : goal.come_on-requires-clause-living
come_on-requires-clause-living g c = living_so g.J.Whose.book.session (plain_trace c.args.ground.now.plan.now) c.args.standing c.args.self.now c.requires c.take-living.result c.take-living.ensures.was

pub come_on-requires-clause-last : goal.come_on-requires-clause-last
come_on-requires-clause-last g c =
    last_goes g.J.Whose.book.session g.J.Whose.places (plain_trace c.args.ground.now.plan.now) c.args.standing c.args.self.now c.requires c.take-living.new.self c.take-living.ensures.gone c.take-living.ensures.rest
    c.take-living.ensures.room c.index_mut.result.now c.index_mut.ensures.value

pub turned-went-requires : goal.turned-went-requires
turned-went-requires g c =
    joined_lives g.J.Whose.book.session (plain_trace c.args.ground.now.plan.now) c.take-living.result c.come_on.new.living c.index_mut.result.now c.come_on.new.last c.come_on.ensures
    (living_so g.J.Whose.book.session (plain_trace c.args.ground.now.plan.now) c.args.standing c.args.self.now c.requires c.take-living.result c.take-living.ensures.was)

pub settle-requires-clause-place : goal.settle-requires-clause-place
settle-requires-clause-place g c =
    place_ok g.J.Whose.book.session g.J.Whose.places (plain_trace c.args.ground.now.plan.now) c.args.standing c.args.self.now c.requires c.take-living.new.self c.take-living.ensures.gone c.take-living.ensures.rest
    c.take-living.ensures.room c.index_mut.result.now c.index_mut.ensures.value c.ordered.ensures c.take-living.result c.come_on.new.living c.come_on.new.last c.take-living.ensures.was c.come_on.ensures c.turned-went.result c.turned-went.ensures
    (record c.take-living.new.self { walkers = with_item c.take-living.new.self.walkers c.take-living.new.self.last c.come_on.new.last; last = c.args.standing.place }) refl refl refl refl refl

pub settle-requires-clause-late : goal.settle-requires-clause-late
settle-requires-clause-late g c =
    late_ok g.J.Whose.book.session g.J.Whose.places (plain_trace c.args.ground.now.plan.now) c.args.standing c.args.self.now c.requires c.take-living.new.self c.take-living.ensures.gone c.take-living.ensures.rest
    c.take-living.ensures.room c.index_mut.result.now c.index_mut.ensures.value c.ordered.ensures c.take-living.result c.come_on.new.living c.come_on.new.last c.take-living.ensures.was c.come_on.ensures c.turned-went.result c.turned-went.ensures
    (record c.take-living.new.self { walkers = with_item c.take-living.new.self.walkers c.take-living.new.self.last c.come_on.new.last; last = c.args.standing.place }) refl refl refl refl refl

pub settle-requires-clause-walkers : goal.settle-requires-clause-walkers
settle-requires-clause-walkers g c =
    walkers_ok g.J.Whose.book.session g.J.Whose.places (plain_trace c.args.ground.now.plan.now) c.args.standing c.args.self.now c.requires c.take-living.new.self c.take-living.ensures.gone c.take-living.ensures.rest
    c.take-living.ensures.room c.index_mut.result.now c.index_mut.ensures.value c.ordered.ensures c.take-living.result c.come_on.new.living c.come_on.new.last c.take-living.ensures.was c.come_on.ensures c.turned-went.result c.turned-went.ensures
    (record c.take-living.new.self { walkers = with_item c.take-living.new.self.walkers c.take-living.new.self.last c.come_on.new.last; last = c.args.standing.place }) refl refl refl refl refl (c.take-living.new.self.walkers.ok.0 ∙ sym (length_set c.take-living.new.self.walkers.items c.take-living.new.self.last c.come_on.new.last))

pub settle-requires-clause-due : goal.settle-requires-clause-due
settle-requires-clause-due g c =
    due_ok g.J.Whose.book.session g.J.Whose.places (plain_trace c.args.ground.now.plan.now) c.args.standing c.args.self.now c.requires c.take-living.new.self c.take-living.ensures.gone c.take-living.ensures.rest
    c.take-living.ensures.room c.index_mut.result.now c.index_mut.ensures.value c.ordered.ensures c.take-living.result c.come_on.new.living c.come_on.new.last c.take-living.ensures.was c.come_on.ensures c.turned-went.result c.turned-went.ensures
    (record c.take-living.new.self { walkers = with_item c.take-living.new.self.walkers c.take-living.new.self.last c.come_on.new.last; last = c.args.standing.place }) refl refl refl refl refl

pub begin_again-requires : goal.begin_again-requires
begin_again-requires g c =
    again_ok g.J.Whose.book.session g.J.Whose.places (plain_trace c.args.ground.now.plan.now) c.args.standing c.args.self.now c.requires c.take-living.new.self c.take-living.ensures.gone c.take-living.ensures.rest
    c.take-living.ensures.room c.index_mut.result.now c.index_mut.ensures.value c.ordered.ensures c.take-living.result c.come_on.new.living c.come_on.new.last c.take-living.ensures.was c.come_on.ensures c.turned-went.result c.turned-went.ensures
    (record c.take-living.new.self { walkers = with_item c.take-living.new.self.walkers c.take-living.new.self.last c.come_on.new.last; last = c.args.standing.place }) refl refl refl refl refl c.settle.new.self c.settle.ensures.settled

pub returns-in-Made-clause-goes : goal.returns-in-Made-clause-goes
returns-in-Made-clause-goes g c =
    made_ok g.J.Whose.book.session g.J.Whose.places (plain_trace c.args.ground.now.plan.now) c.args.standing c.args.self.now c.requires c.take-living.new.self c.take-living.ensures.gone c.take-living.ensures.rest
    c.take-living.ensures.room c.index_mut.result.now c.index_mut.ensures.value c.ordered.ensures c.take-living.result c.come_on.new.living c.come_on.new.last c.take-living.ensures.was c.come_on.ensures c.turned-went.result c.turned-went.ensures
    (record c.take-living.new.self { walkers = with_item c.take-living.new.self.walkers c.take-living.new.self.last c.come_on.new.last; last = c.args.standing.place }) refl refl refl refl refl c.settle.new.self c.settle.ensures.settled c.settle.result (c.settle.ensures.tried ∙ ap (λ n. tried_of c.turned-went.result.walker c.turned-went.result.answer n) c.seen-seen.ensures) c.in-Made.is c.begin_again.new.self c.begin_again.ensures

pub returns-in-Made-clause-room : goal.returns-in-Made-clause-room
returns-in-Made-clause-room g c =
    made_room g.J.Whose.book.session g.J.Whose.places (plain_trace c.args.ground.now.plan.now) c.args.standing c.args.self.now c.requires c.take-living.new.self c.take-living.ensures.gone c.take-living.ensures.rest
    c.take-living.ensures.room c.index_mut.result.now c.index_mut.ensures.value c.ordered.ensures c.take-living.result c.come_on.new.living c.come_on.new.last c.take-living.ensures.was c.come_on.ensures c.turned-went.result c.turned-went.ensures
    (record c.take-living.new.self { walkers = with_item c.take-living.new.self.walkers c.take-living.new.self.last c.come_on.new.last; last = c.args.standing.place }) refl refl refl refl refl c.settle.new.self c.settle.ensures.settled c.settle.result (c.settle.ensures.tried ∙ ap (λ n. tried_of c.turned-went.result.walker c.turned-went.result.answer n) c.seen-seen.ensures) c.in-Made.is c.begin_again.new.self c.begin_again.ensures

pub returns-in_default-clause-goes : goal.returns-in_default-clause-goes
returns-in_default-clause-goes g c =
    stays_ok g.J.Whose.book.session g.J.Whose.places (plain_trace c.args.ground.now.plan.now) c.args.standing c.args.self.now c.requires c.take-living.new.self c.take-living.ensures.gone c.take-living.ensures.rest
    c.take-living.ensures.room c.index_mut.result.now c.index_mut.ensures.value c.ordered.ensures c.take-living.result c.come_on.new.living c.come_on.new.last c.take-living.ensures.was c.come_on.ensures c.turned-went.result c.turned-went.ensures
    (record c.take-living.new.self { walkers = with_item c.take-living.new.self.walkers c.take-living.new.self.last c.come_on.new.last; last = c.args.standing.place }) refl refl refl refl refl c.settle.new.self c.settle.ensures.settled c.settle.result (c.settle.ensures.tried ∙ ap (λ n. tried_of c.turned-went.result.walker c.turned-went.result.answer n) c.seen-seen.ensures) c.in_default.not-Made

pub returns-in_default-clause-room : goal.returns-in_default-clause-room
returns-in_default-clause-room g c =
    room_ok g.J.Whose.book.session g.J.Whose.places (plain_trace c.args.ground.now.plan.now) c.args.standing c.args.self.now c.requires c.take-living.new.self c.take-living.ensures.gone c.take-living.ensures.rest
    c.take-living.ensures.room c.index_mut.result.now c.index_mut.ensures.value c.ordered.ensures c.take-living.result c.come_on.new.living c.come_on.new.last c.take-living.ensures.was c.come_on.ensures c.turned-went.result c.turned-went.ensures
    (record c.take-living.new.self { walkers = with_item c.take-living.new.self.walkers c.take-living.new.self.last c.come_on.new.last; last = c.args.standing.place }) refl refl refl refl refl c.settle.new.self c.settle.ensures.settled
