use Rattle.std.proofs.Common.{◌≡◌, get_or, sym, subst, refl, arith, ap, inl, inr, ◌∙◌}
use Rattle.std.specs.Prelude.{IsNone, IsSome, slice_get}
use Rattle.std.proofs.lemmas.Bool.{cases_lt}
use Rattle.std.proofs.lemmas.Option.{slice_get-get_or, slice_get_within}
use Rattle.pass_plain.proofs.Lists.{some_is}
use Rattle.pass_turns.specs.Meetings.{GoesOn}
use Rattle.pass_turns.specs.Turners.{TurnerState}
use Rattle.pass_turns.proofs.crew.first_living.Goals as goal

pub loop-place-preserved : goal.loop-place-preserved
loop-place-preserved g c k t less at = elim (cases_lt k c.loop-place.place) [
  | inl early ↦ c.loop-place.invariant k t early at
  | inr le ↦
      let same : k ≡ c.loop-place.place = omega (arith, le, less) in
      let there = ap (λ k. slice_get c.args.tasks.now k) (sym same) ∙ at in
      let within = slice_get_within c.args.tasks.now c.loop-place.place t there in
      subst (λ (t : TurnerState). GoesOn t → ⊥) (c.index-tasks-place.is ∙ some_is (get_or c.args.tasks.now c.loop-place.place c.index-tasks-place.result) t (sym (slice_get-get_or c.args.tasks.now c.loop-place.place c.index-tasks-place.result within) ∙ there))
      (c.living.ensures.none (subst IsNone (sym c.in_default.is) refl))
]

pub returns-in-Some-clause-some : goal.returns-in-Some-clause-some
returns-in-Some-clause-some g c = (
  omega arith,
  λ t at.
      let one = some_is (get_or c.args.tasks.now c.loop-place.place c.index-tasks-place.result) t (sym (slice_get-get_or c.args.tasks.now c.loop-place.place c.index-tasks-place.result (omega arith)) ∙ at) in
      let facts = c.living.ensures.some (subst IsSome (sym c.in-Some.is) refl) in
      (ap (λ (t : TurnerState). t.ended) (sym (c.index-tasks-place.is ∙ one)) ∙ facts.0, ap (λ (t : TurnerState). t.cause) (sym (c.index-tasks-place.is ∙ one)) ∙ facts.1),
)

pub returns-clause-none : goal.returns-clause-none
returns-clause-none g c done = λ k d less. c.loop-place.invariant k (get_or c.args.tasks.now k d) (omega arith) (slice_get-get_or c.args.tasks.now k d less)
