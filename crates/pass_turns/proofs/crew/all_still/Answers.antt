use Rattle.std.proofs.Common.{◌≡◌, ap, ◌∙◌, sym, subst, arith, inl, inr, get_or}
use Rattle.std.specs.Prelude.{slice_get}
use Rattle.std.proofs.lemmas.Bool.{cases_lt}
use Rattle.std.proofs.lemmas.Option.{slice_get_within, slice_get-get_or}
use Rattle.pass_plain.proofs.Lists.{some_is}
use Rattle.pass_turns.specs.Turners.{IsStill}
use Rattle.pass_turns.proofs.crew.all_still.Goals as goal

pub loop-place-preserved : goal.loop-place-preserved
loop-place-preserved g c k t less at = elim (cases_lt k c.loop-place.place) [
  | inl early ↦ c.loop-place.invariant k t early at
  | inr le ↦
      let same : k ≡ c.loop-place.place = omega (arith, le, less) in
      let there = ap (λ k. slice_get c.args.tasks.now k) (sym same) ∙ at in
      let within = slice_get_within c.args.tasks.now c.loop-place.place t there in
      subst (λ t. IsStill g.J.Whose.book.session c.args.count t) (c.index-tasks-place.is ∙ some_is (get_or c.args.tasks.now c.loop-place.place c.index-tasks-place.result) t (sym (slice_get-get_or c.args.tasks.now c.loop-place.place c.index-tasks-place.result within) ∙ there))
      (c.is_still.ensures c.if-not-is_still.false)
]

pub returns : goal.returns
returns g c done = λ k d less. c.loop-place.invariant k (get_or c.args.tasks.now k d) (omega arith) (slice_get-get_or c.args.tasks.now k d less)
