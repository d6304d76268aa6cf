use Rattle.std.proofs.Common.{◌≡◌, ap, ◌∙◌, sym, subst, arith, inl, inr, get_or}
use Rattle.std.specs.Prelude.{slice_get}
use Rattle.std.proofs.lemmas.Bool.{cases_lt}
use Rattle.std.proofs.lemmas.Option.{slice_get_within, slice_get-get_or}
use Rattle.pass_plain.proofs.Lists.{some_is}
use Rattle.pass_order.specs.declared.standing.Standing.{Standing}
use Rattle.pass_order.proofs.queue.all_tried.Goals as goal

pub loop-place-preserved : goal.loop-place-preserved
loop-place-preserved c k s less at = elim (cases_lt k c.loop-place.place) [
  | inl early ↦ c.loop-place.invariant k s early at
  | inr le ↦
      let same : k ≡ c.loop-place.place = omega (arith, le, less) in
      let there = ap (λ k. slice_get c.args.late.now k) (sym same) ∙ at in
      let within = slice_get_within c.args.late.now c.loop-place.place s there in
      subst (λ (s : Standing). s.seen ≡ c.args.count) (some_is (get_or c.args.late.now c.loop-place.place _) s (sym (slice_get-get_or c.args.late.now c.loop-place.place _ within) ∙ there))
      (c.was_tried.ensures c.if-not-was_tried.false)
]

pub returns : goal.returns
returns c done i s at = let within = slice_get_within c.args.late.now i s at in c.loop-place.invariant i s (omega (arith, within)) at
