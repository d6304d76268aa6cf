-- The one that is tried and the one that was tried last.
use Rattle.std.proofs.Common.{◌≡◌, ◌≤◌, ℕ, List, refl, ap, sym, ◌∙◌, subst, arith, true, false, length}
use Rattle.std.specs.Prelude.{Option, Some, None, IfSome, IsSome}
use Rattle.pass_plain.specs.Sessions.{Session}
use Rattle.pass_plain.specs.Traces.{Line}
use Rattle.pass_walk.specs.declared.walker.Ended.{Ended as EndedProcess}
use Rattle.pass_walk.specs.declared.walker.Living.{Living}
use Rattle.pass_walk.specs.declared.walker.Walker.{Walker}
use Rattle.pass_walk.specs.declared.walker.Walker.TheVariants as walker
use Rattle.pass_walk.specs.Meetings.{HasComeOn, HasSeenMore, KnowsIfEnded}
use Rattle.pass_walk.specs.Walkers.{IsLivingOf, member_of}
use Rattle.pass_order.specs.Queues.{HasJoined, IsGoing, IsGoingOrGone, IsStillWith}

pub joined_living : {J : Type 0} (session : Session) (trace : List Line) (l m o p : Living J) (z : Walker J) → z ≡ walker.Living o → HasComeOn session trace l m → HasComeOn session trace o p → p.proc.seen ≡ m.proc.seen
    → HasJoined session trace l z m (walker.Living p)
joined_living session trace l m o p z is on its seen = subst (λ (z : Walker _). HasJoined session trace l z m (walker.Living p)) (sym is) (p, refl, on, its, seen)

pub joined_ended : {J : Type 0} (session : Session) (trace : List Line) (l m : Living J) (e f : EndedProcess J) (z : Walker J) → z ≡ walker.Ended e → HasComeOn session trace l m → HasSeenMore session e f → f.trail.seen ≡ m.proc.seen
    → HasJoined session trace l z m (walker.Ended f)
joined_ended session trace l m e f z is on its seen = subst (λ (z : Walker _). HasJoined session trace l z m (walker.Ended f)) (sym is) (f, refl, on, its, seen)

-- neither lives nor has ended
pub joined_none : {J : Type 0} (session : Session) (trace : List Line) (l : Living J) (z : Walker J) → IsGoingOrGone session trace z → ((o : Living J) → z ≡ walker.Living o → ⊥) → ((e : EndedProcess J) → z ≡ walker.Ended e → ⊥) → HasJoined session trace l z l z
joined_none session trace l (walker.Living o) is living ended = absurd (living o refl)
joined_none session trace l (walker.Ended e) is living ended = absurd (ended e refl)
joined_none session trace l (walker.Left x) is living ended = absurd is
joined_none session trace l walker.Gone is living ended = (refl, refl)

pub going_or_gone : {J : Type 0} (session : Session) (trace : List Line) (w : Walker J) → IsGoing session trace w → IsGoingOrGone session trace w
going_or_gone session trace (walker.Living l) is = is
going_or_gone session trace (walker.Ended e) is = is
going_or_gone session trace (walker.Left x) is = absurd is
going_or_gone session trace walker.Gone is = absurd is

pub is_living : {J : Type 0} (session : Session) (trace : List Line) (w : Walker J) (l : Living J) → w ≡ walker.Living l → IsGoing session trace w → IsLivingOf session trace l
is_living session trace w l is going = subst (λ (w : Walker _). IsGoing session trace w) is going

pub going_knows : {J : Type 0} (session : Session) (trace : List Line) (w : Walker J) → IsGoing session trace w → KnowsIfEnded w
going_knows session trace (walker.Living l) is = tt {0}
going_knows session trace (walker.Ended e) is = is.met
going_knows session trace (walker.Left x) is = absurd is
going_knows session trace walker.Gone is = absurd is

pub still_living : {J : Type 0} (count : ℕ) (w : Walker J) (l : Living J) → w ≡ walker.Living l → length l.proc.seen ≡ count → IsStillWith count w
still_living count w l is size = record {
  ended = λ h. absurd (let z : false ≡ true = ap (λ (w : Walker _). (member_of w).ended) (sym is) ∙ h in cc);
  living = λ h. ap (λ (w : Walker _). length (member_of w).seen) is ∙ size;
}

pub still_ended : {J : Type 0} (count : ℕ) (w : Walker J) (e : EndedProcess J) → w ≡ walker.Ended e → KnowsIfEnded w → IfSome e.met (λ met. met ≤ count) × IsSome e.met → IsStillWith count w
still_ended {J = J} count w e is knows seen = record {
  ended = λ h. subst (λ (w : Walker J). length (member_of w).seen ≤ count) (sym is) (by_met e.met refl seen);
  living = λ h. absurd (let z : true ≡ false = ap (λ (w : Walker J). (member_of w).ended) (sym is) ∙ h in cc);
}
  where
    known : (count : ℕ) → e.met ≡ Some count → length e.trail.seen ≡ count
    known = subst (λ (w : Walker J). KnowsIfEnded w) is knows

    by_met : (o : Option ℕ) → e.met ≡ o → IfSome o (λ met. met ≤ count) × IsSome o → length e.trail.seen ≤ count
    by_met (Some met) at seen = (let a = known met at in let b = seen.0 in omega (arith, a, b))
    by_met None at seen = absurd (let z : false ≡ true = seen.1 in cc)
