-- A run in the order of the text, from its first process on.
use Rattle.std.proofs.Common.{◌≡◌, ◌+◌, ℕ, zero, suc, List, [], ◌∷◌, length, refl, ap, sym, ◌∙◌, subst, arith, inl, inr, ◌==◌, cond, IsPermutation, append-nil}
use Rattle.std.specs.Prelude.{Option, Some, None, Contains, slice_get}
use Rattle.std.proofs.lemmas.List.Sorted.{Contains-permutation, IsPermutation-sym}
use mathlib.Core.List.{IsPrefix}
use Rattle.pass_entry.proofs.Lists.{different}
use Rattle.pass_plain.specs.Legal.{is_over}
use Rattle.pass_plain.specs.Runs.{next_number}
use Rattle.pass_plain.specs.Sessions.{Session}
use Rattle.pass_plain.specs.Traces.{Line, lines_of}
use Rattle.pass_plain.proofs.Lists.{some_is}
use Rattle.pass_plain.proofs.OtherCalls.{last_none}
use Rattle.pass_book.proofs.Prefixes.{prefix_self}
use Rattle.pass_replay.specs.Lines.{IsLineAt}
use Rattle.pass_walk.specs.declared.walker.Living.{Living}
use Rattle.pass_walk.specs.declared.walker.Walker.{Walker}
use Rattle.pass_walk.specs.declared.walker.Walker.TheVariants as walker
use Rattle.pass_walk.specs.Walkers.{IsKid, member_of}
use Rattle.pass_order.specs.declared.standing.Standing.{Standing}
use Rattle.pass_order.specs.Queues.{AreTriesBy, IsGoing, IsQueue, IsRanked, lives_at, standing_at}
use Rattle.pass_order.specs.Ranks.{IsRank, rank_of}
use Rattle.pass_order.proofs.Placing.{at_cons, at_permuted, contains_nil, contains_only}

only_one : {X : Type 0} (x y : X) (i : ℕ) → slice_get (x ∷ []) i ≡ Some y → (i ≡ 0) × (x ≡ y)
only_one x y zero at = (refl, some_is x y at)
only_one x y (suc i) at = absurd (cc)

module _ {J : Type 0} (session : Session) (trace : List Line) (l : Living J) (kid : IsKid session trace l) (process : l.process ≡ 1) (who : l.proc.who ≡ session.start.ceiling + 1) where
  first_next : next_number l.proc.seen l.proc.who ≡ 1
  first_next = ap (λ last. cond (last == 0) 1 (cond (is_over l.proc.seen l.proc.who last) (last + 1) last)) (last_none l.proc.seen l.proc.who kid.silent)

  first_rank : IsRank trace (l.process, next_number l.proc.seen l.proc.who) (rank_of l.line 0)
  first_rank = by_line l.line refl
    where
      by_line : (o : Option ℕ) → l.line ≡ o → IsRank trace (l.process, next_number l.proc.seen l.proc.who) (rank_of o 0)
      by_line (Some q) line =
          let (its, there, own, count) = subst (λ (o : Option ℕ). IsLineAt trace l.process kid.living.done o) line kid.living.line in
          inl (record { place = q; its = its; stands = there; own = own; count = ap (λ k. k + 1) count ∙ sym kid.living.local.next; is = refl })
      by_line None line =
          let lines : length (lines_of trace l.process) ≡ kid.living.done = subst (λ (o : Option ℕ). IsLineAt trace l.process kid.living.done o) line kid.living.line in
          let next = kid.living.local.next in
          let one = first_next in
          inr (inr (inl (record { first = process; none = omega (arith, lines, next, one); only = first_next; is = refl })))

  abbrev pub its_standing : Standing
  its_standing = record { rank = rank_of l.line 0; place = 0; seen = 0 }

  abbrev pub alone : List (Walker J)
  alone = walker.Living l ∷ []

  counted : (place : ℕ) → standing_at place (its_standing ∷ []) ≡ lives_at alone place
  counted zero = (let a = at_cons 0 its_standing [] in let none : standing_at 0 [] ≡ 0 = refl in let b : lives_at alone 0 ≡ 1 = refl in omega (arith, a, none, b))
  counted (suc place) =
      (let a = at_cons (suc place) its_standing [] in let none : standing_at (suc place) [] ≡ 0 = refl in let b = ap {B = ℕ} (λ b. cond b 1 0) (different 0 (suc place) (λ same. omega (arith, same))) in let c : lives_at alone (suc place) ≡ 0 = refl in omega (arith, a, none, b, c))

  tried : AreTriesBy session trace alone l.proc.seen []
  tried = record {
    legal = kid.living.legal;
    behind = λ i w at. subst (λ (w : Walker J). IsPrefix (member_of w).seen l.proc.seen) (only_one (walker.Living l) w i at).1 (prefix_self l.proc.seen);
    each = λ i t at. absurd (cc);
    chain = λ i t u at next. absurd (cc);
    own = λ i w at n e at_n by.
        let same = (only_one (walker.Living l) w i at).1 in
        absurd (kid.silent n e (ap (λ (w : Walker J). slice_get (member_of w).seen n) same ∙ at_n) (by ∙ ap (λ (w : Walker J). (member_of w).who) (sym same)));
    rests = λ i t at. absurd (cc);
    placed = λ i t at. absurd (cc);
    first = λ room told i t at. absurd (cc);
  }

  pub starts : (due : List Standing) → IsPermutation (its_standing ∷ []) due → IsQueue session trace alone due [] 0 l.proc.seen []
  starts due perm = record {
    going = λ i w at. subst (λ w. IsGoing session trace w) (only_one (walker.Living l) w i at).1 kid.living;
    run = record {
      first_is = record { place = 0; its = walker.Living l; stands = refl; number = process; is = who };
      bears = λ i w at n e out descriptors at_n by born.
          let same = (only_one (walker.Living l) w i at).1 in
          absurd (kid.silent n e (ap (λ (w : Walker J). slice_get (member_of w).seen n) same ∙ at_n) (by ∙ ap (λ (w : Walker J). (member_of w).who) (sym same)));
    };
    last_at = (walker.Living l, refl, refl);
    counted = λ place. ap (λ xs. standing_at place xs) (append-nil due) ∙ at_permuted place (its_standing ∷ []) due perm ∙ counted place;
    ranked = λ s h.
        subst (λ s. IsRanked trace alone s)
        (contains_only its_standing s (Contains-permutation due (its_standing ∷ []) s (IsPermutation-sym (its_standing ∷ []) due perm) (subst (λ xs. Contains xs s) (append-nil due) h)))
        (record { living = l; stands = refl; rank = first_rank });
    waiting = λ s h. absurd (contains_nil s h);
    tried = tried;
    rested = λ i t at. absurd (cc);
  }
