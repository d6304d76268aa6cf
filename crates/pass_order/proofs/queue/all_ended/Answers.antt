use Rattle.std.proofs.Common.{◌≡◌, ap, ◌∙◌, sym, subst, arith, inl, inr, get_or, true}
use Rattle.std.specs.Prelude.{slice_get}
use Rattle.std.proofs.lemmas.Bool.{cases_lt}
use Rattle.std.proofs.lemmas.Option.{slice_get_within, slice_get-get_or}
use Rattle.pass_plain.proofs.Lists.{some_is}
use Rattle.pass_walk.specs.declared.walker.Walker.{Walker}
use Rattle.pass_walk.specs.Walkers.{member_of}
use Rattle.pass_order.proofs.queue.all_ended.Goals as goal

pub loop-place-preserved : goal.loop-place-preserved
loop-place-preserved g c k w less at = elim (cases_lt k c.loop-place.place) [
  | inl early ↦ c.loop-place.invariant k w early at
  | inr le ↦
      let same : k ≡ c.loop-place.place = omega (arith, le, less) in
      let there = ap (λ k. slice_get c.args.walkers.now k) (sym same) ∙ at in
      let within = slice_get_within c.args.walkers.now c.loop-place.place w there in
      subst (λ (w : Walker _). (member_of w).ended ≡ true) (c.index-walkers-place.is ∙ some_is (get_or c.args.walkers.now c.loop-place.place c.index-walkers-place.result) w (sym (slice_get-get_or c.args.walkers.now c.loop-place.place c.index-walkers-place.result within) ∙ there))
      (c.has_ended.ensures c.if-not-has_ended.false)
]

pub returns : goal.returns
returns g c done i w at = let within = slice_get_within c.args.walkers.now i w at in c.loop-place.invariant i w (omega (arith, within)) at
