use Rattle.std.proofs.Common.{◌≡◌, subst, arith}
use Rattle.pass_pattern.specs.Visits.{Adds}
use Rattle.pass_pattern.proofs.Searching.{once_from, begun, come_on, steps_so_far, steps_cut_off, all_come}
use Rattle.pass_pattern.proofs.search.search.Goals as goal

pub loop-next-init : goal.loop-next-init
loop-next-init g c =
    begun c.args.index.now c.args.code.now c.args.first.now c.add.new.visits.keys c.args.steps.now
    (subst (λ ks. Adds (λ y. y ≡ c.args.first.now) ks c.add.new.visits.keys) c.new-visits.ensures.empty c.in_ok-add.ensures)

pub loop-next-smaller : goal.loop-next-smaller
loop-next-smaller g c = omega (arith, c.loop-next-test.true, c.len.ensures.small)

pub returns-in_err-follow-clause-steps : goal.returns-in_err-follow-clause-steps
returns-in_err-follow-clause-steps g c =
    steps_cut_off c.args.index.now c.args.code.now c.args.first.now c.loop-next.visits.keys c.loop-next.next c.args.steps.now c.loop-next.steps c.follow.new.steps c.visit_at-visit.result c.loop-next.invariant
    (once_from c.loop-next.visits.keys c.len.ensures.unique) c.visit_at-visit.ensures c.follow.ensures.steps

pub loop-next-preserved : goal.loop-next-preserved
loop-next-preserved g c =
    come_on c.args.index.now c.args.code.now c.args.first.now c.loop-next.visits.keys c.follow.new.visits.keys c.loop-next.next c.args.steps.now c.loop-next.steps c.follow.new.steps c.visit_at-visit.result c.loop-next.invariant
    (once_from c.loop-next.visits.keys c.len.ensures.unique) c.visit_at-visit.ensures c.follow.ensures.steps c.in_ok-follow.ensures.visits

pub returns-clause-visits : goal.returns-clause-visits
returns-clause-visits g c =
    all_come c.args.index.now c.args.code.now c.args.first.now c.loop-next.visits.keys c.loop-next.next c.args.steps.now c.loop-next.steps c.loop-next.invariant (omega (arith, c.loop-next-test.false, c.len.ensures.len))

pub returns-clause-steps : goal.returns-clause-steps
returns-clause-steps g c = steps_so_far c.args.index.now c.args.code.now c.args.first.now c.loop-next.visits.keys c.loop-next.next c.args.steps.now c.loop-next.steps c.loop-next.invariant
