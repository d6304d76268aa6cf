use Rattle.std.proofs.Common.{List, refl, sym, subst, arith}
use Rattle.pass_old.specs.declared.diffing.ByteRange.{ByteRange}
use Rattle.pass_old.proofs.Parting.{IsSoFar, none_found, one_more, all_found}
use Rattle.pass_old.proofs.diffing.differences.Goals as goal

pub loop-place-init : goal.loop-place-init
loop-place-init c =
    let f = c.first_other-place.ensures in
    none_found c.args.a.now c.args.b.now c.max-end.result c.first_other-place.result c.new-ranges.result.items c.new-ranges.ensures.items f.most f.before f.found

pub loop-place-preserved : goal.loop-place-preserved
loop-place-preserved c =
    let a = c.args.a.now in
    let b = c.args.b.now in
    let end = c.max-end.result in
    let place = c.loop-place.place in
    let s = c.first_same-behind.ensures in
    let f = c.first_other-place-in-loop-place.ensures in
    let r : ByteRange = record { begin = place; end = c.first_same-behind.result } in
    subst (λ (l : List ByteRange). IsSoFar a b end c.first_other-place-in-loop-place.result l) (sym c.in_ok-push.ensures.items)
    (one_more a b end place c.first_same-behind.result c.first_other-place-in-loop-place.result c.loop-place.ranges.items r refl refl c.loop-place.invariant c.loop-place-test.true
    s.least s.most s.before s.found f.least f.most f.before f.found)

pub returns : goal.returns
returns c =
    all_found c.args.a.now c.args.b.now c.max-end.result c.loop-place.place c.loop-place.ranges.items c.loop-place.invariant (omega (arith, c.max-end.ensures)) (omega (arith, c.max-end.ensures)) (omega (arith, c.loop-place-test.false))
