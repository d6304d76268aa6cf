use Rattle.std.proofs.Common.{◌∙◌, ◌++◌, ℕ, List, [], ◌∷◌, IsPermutation, ap, arith, length, subst, sym}
use Rattle.std.specs.BinaryHeap.{heap_items}
use Rattle.pass_trace.specs.TraceLines.{plain_trace}
use Rattle.pass_walk.specs.declared.ends.Last.{Last}
use Rattle.pass_walk.specs.Runs.{IsRanBy}
use Rattle.pass_walk.specs.declared.walker.Walker.{Walker}
use Rattle.pass_walk.specs.declared.walker.Walker.TheVariants as walker
use Rattle.pass_walk.proofs.LeftLemmas.{left_at_some, left_some}
use Rattle.pass_walk.proofs.Placed.{first_line}
use Rattle.pass_order.specs.declared.standing.Standing.{Standing}
use Rattle.pass_order.proofs.Performing.{are_there, first_living, first_set, performed_replay, performed_run, trails_fit, unmade_played}
use Rattle.pass_order.proofs.running.perform.Goals as goal

pub left-most-requires : goal.left-most-requires
left-most-requires g c = (0, first_line (plain_trace c.args.ground.now.plan.now) 1 c.first-line.result c.first-line.ensures)

pub unmade-requires : goal.unmade-requires
unmade-requires g c = record { room = (c.requires.room.empty, (let some = left_some (plain_trace c.args.ground.now.plan.now) 1 in omega (arith, some, c.requires.room.fits))) }

pub returns-in_default-clause-ran : goal.returns-in_default-clause-ran
returns-in_default-clause-ran g c =
    let trace = plain_trace c.args.ground.now.plan.now in
    let session = g.J.Whose.book.session in
    subst (λ (last : Last). IsRanBy session g.J.Whose.places trace c.unmade.result.trails.items last) (sym c.unmade.ensures.last)
    (performed_run session g.J.Whose.places trace _ _
    (unmade_played g.row.J.Denot session g.J.Whose.places trace c.lives.ensures.newborn c.args.first c.between.ensures c.requires.first c.first-line.result c.first-line.ensures c.new-children.result) c.unmade.result.trails.items c.unmade.ensures.trails)

pub returns-in_default-clause-replayed : goal.returns-in_default-clause-replayed
returns-in_default-clause-replayed g c =
    let trace = plain_trace c.args.ground.now.plan.now in
    let session = g.J.Whose.book.session in
    performed_replay session g.J.Whose.places trace _ _
    (unmade_played g.row.J.Denot session g.J.Whose.places trace c.lives.ensures.newborn c.args.first c.between.ensures c.requires.first c.first-line.result c.first-line.ensures c.new-children.result) c.unmade.result.trails.items c.unmade.ensures.trails
    c.tries.ensures c.ordered.ensures

pub add-requires : goal.add-requires
add-requires g c =
    let some = left_at_some (plain_trace c.args.ground.now.plan.now) 1 c.first-line.result in
    record { room = (omega (arith, some, c.left-most.ensures, c.in-Ok.ensures.room.0, c.in-Ok.ensures.lengths.0), omega (arith, some, c.left-most.ensures, c.in-Ok.ensures.room.1, c.in-Ok.ensures.lengths.1)) }

pub make_calls-last-requires : goal.make_calls-last-requires
make_calls-last-requires g c =
    let trace = plain_trace c.args.ground.now.plan.now in
    let one = first_living g.row.J.Denot g.J.Whose.book.session g.J.Whose.places trace c.lives.ensures.newborn c.args.first c.between.ensures c.requires.first c.first-line.result c.first-line.ensures c.new-children.result in
    let stands : ℕ → ℕ → Standing = λ rank place. record { rank = rank; place = place; seen = 0 } in
    let e = c.in-Ok.ensures in
    let added = c.add.ensures in
    first_set g.row.J.Denot g.J.Whose.book.session g.J.Whose.places trace c.lives.ensures.newborn c.args.first c.between.ensures c.requires.first c.first-line.result c.first-line.ensures c.new-children.result c.add.new.self
    (added.walkers ∙ ap (λ (ws : List (Walker _)). ws ++ walker.Living one ∷ []) e.empty.0)
    (subst (λ (x : ℕ × ℕ × List Standing). IsPermutation (stands x.0 x.1 ∷ x.2) (heap_items c.add.new.self.due)) (λ i. (c.rank_at.ensures i, length (e.empty.0 i), e.empty.1 i)) added.due)
    (added.heap e.heap)
    (added.late.0 ∙ e.empty.2)
    (added.last ∙ e.empty.3)
    (omega (arith, c.left-most.ensures, e.room.0, added.room.0))
    (omega (arith, c.left-most.ensures, e.room.1, added.room.1))
    (omega (arith, c.left-most.ensures, e.room.2, added.room.2))
    (omega (arith, added.count, added.late.1, e.lengths.1, e.lengths.2))

pub into_trails-requires-clause-room : goal.into_trails-requires-clause-room
into_trails-requires-clause-room g c =
    let trace = plain_trace c.args.ground.now.plan.now in
    let one = first_living g.row.J.Denot g.J.Whose.book.session g.J.Whose.places trace c.lives.ensures.newborn c.args.first c.between.ensures c.requires.first c.first-line.result c.first-line.ensures c.new-children.result in
    let fit = trails_fit g.row.J.Denot g.J.Whose.book.session g.J.Whose.places trace c.lives.ensures.newborn c.args.first c.between.ensures c.requires.first c.first-line.result c.first-line.ensures c.new-children.result c.add.new.self
    (c.add.ensures.walkers ∙ ap (λ (ws : List (Walker _)). ws ++ walker.Living one ∷ []) c.in-Ok.ensures.empty.0) c.make_calls-last.new.queue.walkers.items _ c.make_calls-last.ensures.room c.requires.room.fits in
    (c.requires.room.empty, omega (arith, fit, c.make_calls-last.new.queue.walkers.ok.0))

pub into_trails-requires-clause-each : goal.into_trails-requires-clause-each
into_trails-requires-clause-each g c i w at =
    are_there g.J.Whose.book.session g.J.Whose.places (plain_trace c.args.ground.now.plan.now) w (c.make_calls-last.ensures.played.stopped.each i w at)

pub returns-clause-ran : goal.returns-clause-ran
returns-clause-ran g c =
    performed_run g.J.Whose.book.session g.J.Whose.places (plain_trace c.args.ground.now.plan.now) c.make_calls-last.new.queue.walkers.items c.make_calls-last.result c.make_calls-last.ensures.played c.into_trails.result.items c.into_trails.ensures

pub returns-clause-replayed : goal.returns-clause-replayed
returns-clause-replayed g c =
    performed_replay g.J.Whose.book.session g.J.Whose.places (plain_trace c.args.ground.now.plan.now) c.make_calls-last.new.queue.walkers.items c.make_calls-last.result c.make_calls-last.ensures.played c.into_trails.result.items c.into_trails.ensures
    c.tries.ensures c.ordered.ensures
