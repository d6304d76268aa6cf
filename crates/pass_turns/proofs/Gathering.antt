-- A process that meets others, one after the other.
use Rattle.std.proofs.Common.{◌≡◌, ◌<◌, ◌≤◌, ◌+◌, ℕ, List, length, ap, sym, ◌∙◌, subst, arith, inl, inr, true, length-append}
use Rattle.std.specs.Prelude.{Some, slice_get, slice_set}
use Rattle.std.proofs.lemmas.Bool.{cases_lt}
use Rattle.pass_plain.proofs.Lists.{some_is}
use Rattle.pass_turns.specs.Meetings.{IsLater}
use Rattle.pass_turns.specs.Turners.{TurnerState}
use Rattle.pass_walk.proofs.Linked.{set_other}
use Rattle.pass_entry.proofs.Places.{set_here}

-- those before a place that have ended have seen no more
abbrev pub HaveSeenNoMore : List TurnerState → ℕ → TurnerState → Type 0
HaveSeenNoMore tasks place first = (k : ℕ) (t : TurnerState) → k < place → slice_get tasks k ≡ Some t → t.ended ≡ true → length t.seen ≤ length first.seen

pub seen_longer : (old new : TurnerState) → IsLater old new → length old.seen ≤ length new.seen
seen_longer old new is = (let a = ap length is.turned.begins.1 in let b = length-append old.seen is.turned.begins.0 in omega (arith, a, b))

-- it has met one more
pub one_more_met : (tasks : List TurnerState) (place : ℕ) (other first now : TurnerState) → place < length tasks → IsLater first now → (other.ended ≡ true → length other.seen ≤ length now.seen)
    → HaveSeenNoMore tasks place first → HaveSeenNoMore (slice_set tasks place other) (place + 1) now
one_more_met tasks place other first now within later met before k t less at ended = elim (cases_lt k place) [
  | inl early ↦
      let a = before k t early (sym (set_other tasks place k other (λ same. omega (arith, early, same))) ∙ at) ended in
      let b = seen_longer first now later in
      omega (arith, a, b)
  | inr le ↦
      let same : k ≡ place = omega (arith, le, less) in
      let one : other ≡ t = some_is other t (sym (set_here tasks place other within) ∙ ap (λ k. slice_get (slice_set tasks place other) k) (sym same) ∙ at) in
      subst (λ (t : TurnerState). length t.seen ≤ length now.seen) one (met (ap (λ (t : TurnerState). t.ended) one ∙ ended))
]
