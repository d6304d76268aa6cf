use Rattle.std.proofs.Common.{◌∙◌, ℕ, List, subst, sym, refl, get_or, arith}
use Rattle.std.proofs.lemmas.Option.{slice_get-get_or, slice_get_within}
use Rattle.pass_plain.proofs.Lists.{some_is}
use Rattle.pass_turns.specs.Meetings.{IsLater}
use Rattle.pass_turns.specs.Turners.{TurnerState}
use Rattle.pass_turns.proofs.Gathering.{one_more_met}
use Rattle.pass_turns.proofs.Meetings.{are_later_same, are_later_set, later_same, later_twice}
use Rattle.pass_turns.proofs.meeting.meet_each.Goals as goal

pub loop-place-init : goal.loop-place-init
loop-place-init g c = record {
  size = refl;
  room = refl;
  later = are_later_same c.args.others.now.items;
  first = later_same c.args.first.now;
  met = λ k t less at ended. absurd (omega (arith, less));
}

pub meet-requires : goal.meet-requires
meet-requires g c = record { living = (c.loop-place.invariant.first.ended ∙ c.requires.0, c.loop-place.invariant.first.cause ∙ c.requires.1) }

pub loop-place-preserved : goal.loop-place-preserved
loop-place-preserved g c =
    let us : List TurnerState = c.loop-place.others.items in
    let i : ℕ = c.loop-place.place in
    record {
      size = c.loop-place.invariant.size;
      room = c.loop-place.invariant.room;
      later = are_later_set c.args.others.now.items us i c.meet.new.other c.loop-place.invariant.later
          (λ u there. subst (λ (u : TurnerState). IsLater u c.meet.new.other)
          (c.index_mut.ensures.value ∙ some_is (get_or us i c.index_mut.result.now) u (sym (slice_get-get_or us i c.index_mut.result.now (slice_get_within us i u there)) ∙ there)) c.meet.ensures.other);
      first = later_twice c.args.first.now c.loop-place.first c.meet.new.self c.loop-place.invariant.first c.meet.ensures.first;
      met = one_more_met us i c.meet.new.other c.loop-place.first c.meet.new.self (omega (arith, c.loop-place.invariant.size, c.loop-place.others.ok.0, c.loop-place-test.true)) c.meet.ensures.first c.meet.ensures.met c.loop-place.invariant.met;
    }

pub returns-clause-met : goal.returns-clause-met
returns-clause-met g c = λ k d less.
    c.loop-place.invariant.met k (get_or c.loop-place.others.items k d) (omega (arith, less, c.loop-place.invariant.size, c.loop-place.others.ok.0, c.loop-place-test.false)) (slice_get-get_or c.loop-place.others.items k d less)
