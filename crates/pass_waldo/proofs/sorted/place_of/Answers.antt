use Rattle.std.proofs.Common.{◌≡◌, true, refl, length, ◌-◌, sym, ap, ◌∙◌, arith}
use Rattle.std.proofs.lemmas.Option.{get_or_from_slice_get}
use Rattle.std.specs.Ordering.{is_lt}
use Rattle.std.specs.declared.cmp.Ordering.{Ordering}
use Rattle.std.specs.declared.cmp.Ordering.TheVariants.{Less, Equal, Greater}
use Rattle.pass_waldo.proofs.Sorting.{all_below}
use Rattle.pass_waldo.proofs.sorted.place_of.Goals as goal

below : (r : Ordering) → is_lt r ≡ true → r ≡ Less
below Less is = refl
below Equal is = absurd (cc)
below Greater is = absurd (cc)

pub returns-in-Some-clause-position : goal.returns-in-Some-clause-position
returns-in-Some-clause-position g c = λ up. (all_below g.met.T.Ord.total c.args.row.now c.args.value.now (λ d. ap (λ y. g.T.Ord.cmp y c.args.value.now) (get_or_from_slice_get c.args.row.now (length c.args.row.now - 1) c.in-Some.last.now d (sym c.in-Some.ensures.value)) ∙ less) up, λ k d low high. absurd (omega (arith, low, high)))
  where
    less : g.T.Ord.cmp c.in-Some.last.now c.args.value.now ≡ Less
    less = below (g.T.Ord.cmp c.in-Some.last.now c.args.value.now) (let a = c.cmp.ensures in let b = c.is_lt.ensures in let t = c.if-is_lt.true in cc)
