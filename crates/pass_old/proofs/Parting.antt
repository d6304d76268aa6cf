-- Ranges of places at which two contents differ, found one after the other.
use Rattle.std.proofs.Common.{◌≡◌, ◌∙◌, ◌⊎◌, ◌↔◌, ℕ, zero, suc, ◌+◌, ◌-◌, ◌<◌, ◌≤◌, List, [], ◌∷◌, ◌++◌, length, inl, inr, ⊎_elim, refl, sym, ap, subst, arith}
use Rattle.std.specs.Prelude.{Some, None, slice_get}
use Rattle.std.proofs.lemmas.Bool.{cases_lt}
use Rattle.std.proofs.lemmas.Option.{slice_get_within}
use Rattle.pass_entry.proofs.Places.{in_either, slice_get-last}
use Rattle.pass_entry.proofs.Lists.{some_is}
use Rattle.pass_old.specs.declared.diffing.ByteRange.{ByteRange}
use Rattle.pass_old.specs.Diffs.{Differs, IsIn, AreDifferences}

abbrev IsWithin : ℕ → ByteRange → Type 0
IsWithin p r = (r.begin ≤ p) × (p < r.end)

left_get : {X : Type 0} (xs ys : List X) (i : ℕ) (x : X) → slice_get xs i ≡ Some x → slice_get (xs ++ ys) i ≡ Some x
left_get [] ys i x at = absurd (cc)
left_get (y ∷ xs) ys zero x at = at
left_get (y ∷ xs) ys (suc i) x at = left_get xs ys i x at

one_get : {X : Type 0} (x y : X) (j : ℕ) → slice_get (x ∷ []) j ≡ Some y → (j ≡ 0) × (x ≡ y)
one_get x y zero at = (refl, some_is x y at)
one_get x y (suc j) at = absurd (cc)

-- a range of the list, or the one behind it
which : (ranges : List ByteRange) (r : ByteRange) (i : ℕ) (s : ByteRange) → slice_get (ranges ++ r ∷ []) i ≡ Some s → (slice_get ranges i ≡ Some s) ⊎ ((i ≡ length ranges) × (r ≡ s))
which ranges r i s at = ⊎_elim (λ here. inl here)
    (λ (x : (j : ℕ) × (i ≡ length ranges + j) × (slice_get (r ∷ []) j ≡ Some s)). let one = one_get r s x.0 x.2 in inr (omega (arith, x.1, one.0), one.1))
    (in_either ranges (r ∷ []) i s at)

in_old : (p : ℕ) (ranges : List ByteRange) (r : ByteRange) → IsIn p ranges → IsIn p (ranges ++ r ∷ [])
in_old p ranges r (i, s, at, low, high) = (i, s, left_get ranges (r ∷ []) i s at, low, high)

in_new : (p : ℕ) (ranges : List ByteRange) (r : ByteRange) → IsWithin p r → IsIn p (ranges ++ r ∷ [])
in_new p ranges r is = (length ranges, r, slice_get-last ranges r, is.0, is.1)

in_one : (p : ℕ) (ranges : List ByteRange) (r : ByteRange) → IsIn p (ranges ++ r ∷ []) → IsIn p ranges ⊎ IsWithin p r
in_one p ranges r (i, s, at, low, high) = ⊎_elim (λ here. inl (i, s, here, low, high))
    (λ (x : (i ≡ length ranges) × (r ≡ s)). inr (subst (λ (t : ByteRange). IsWithin p t) (sym x.1) (low, high))) (which ranges r i s at)

-- what was found below a place
pub record IsSoFar (a b : List ℕ) (end place : ℕ) (ranges : List ByteRange) : Type 0 where
  pub most : place ≤ end
  pub some : (i : ℕ) (r : ByteRange) → slice_get ranges i ≡ Some r → r.begin < r.end
  pub apart : (i : ℕ) (r s : ByteRange) → slice_get ranges i ≡ Some r → slice_get ranges (i + 1) ≡ Some s → r.end < s.begin
  pub within : (i : ℕ) (r : ByteRange) → slice_get ranges i ≡ Some r → r.end ≤ place
  pub gap : (i : ℕ) (r : ByteRange) → slice_get ranges i ≡ Some r → place < end → r.end < place
  pub exact : (p : ℕ) → p < place → IsIn p ranges ↔ Differs a b p
  pub found : place < end → Differs a b place

pub none_found : (a b : List ℕ) (end place : ℕ) (ranges : List ByteRange) → ranges ≡ [] → place ≤ end → ((p : ℕ) → 0 ≤ p → p < place → slice_get a p ≡ slice_get b p) → (place < end → Differs a b place) → IsSoFar a b end place ranges
none_found a b end place ranges none most same found = subst (λ (l : List ByteRange). IsSoFar a b end place l) (sym none) (record {
  most = most;
  some = λ i r at. absurd (cc);
  apart = λ i r s at next. absurd (cc);
  within = λ i r at. absurd (cc);
  gap = λ i r at low. absurd (cc);
  exact = λ p low. (λ is. absurd (nothing_in p is), λ differs. absurd (differs (same p (omega arith) low)));
  found = found;
})
  where
    nothing_in : (p : ℕ) → IsIn p [] → ⊥
    nothing_in p (i, r, at, low, high) = cc

module _ (a b : List ℕ) (end place behind next : ℕ) (ranges : List ByteRange) (r : ByteRange) (begin_is : r.begin ≡ place) (end_is : r.end ≡ behind) (s : IsSoFar a b end place ranges) (low : place < end)
    (behind_least : place ≤ behind) (behind_most : behind ≤ end) (differs : (p : ℕ) → place ≤ p → p < behind → Differs a b p) (behind_same : behind < end → slice_get a behind ≡ slice_get b behind)
    (next_least : behind ≤ next) (next_most : next ≤ end) (same : (p : ℕ) → behind ≤ p → p < next → slice_get a p ≡ slice_get b p) (next_found : next < end → Differs a b next) where
  longer : place < behind
  longer = ⊎_elim (λ (lt : place < behind). lt) (λ (le : behind ≤ place).
      let is : behind ≡ place = omega (arith, le, behind_least) in
      absurd (s.found low (subst (λ (n : ℕ). slice_get a n ≡ slice_get b n) is (behind_same (omega (arith, is, low)))))) (cases_lt place behind)

  further : next < end → behind < next
  further more = ⊎_elim (λ (lt : behind < next). lt) (λ (le : next ≤ behind).
      let is : behind ≡ next = omega (arith, le, next_least) in
      absurd (next_found more (subst (λ (n : ℕ). slice_get a n ≡ slice_get b n) is (behind_same (omega (arith, is, more)))))) (cases_lt behind next)

  abbrev pub all : List ByteRange
  all = ranges ++ r ∷ []

  below : (i : ℕ) (t : ByteRange) → slice_get all i ≡ Some t → t.end ≤ behind
  below i t at = ⊎_elim (λ (here : slice_get ranges i ≡ Some t). let w = s.within i t here in let l = longer in omega (arith, w, l))
      (λ (x : (i ≡ length ranges) × (r ≡ t)). let e = ap (λ (u : ByteRange). u.end) x.1 in omega (arith, e, end_is)) (which ranges r i t at)

  at_place : (p : ℕ) → p < next → IsIn p all ↔ Differs a b p
  at_place p less = ⊎_elim early (λ (over : place ≤ p). ⊎_elim (λ (lt : p < behind). (λ is. differs p over lt, λ other. in_new p ranges r (omega (arith, begin_is, over), omega (arith, end_is, lt))))
      (late over) (cases_lt p behind)) (cases_lt p place)
    where
      early : p < place → IsIn p all ↔ Differs a b p
      early lt = (
        λ is. ⊎_elim (λ here. (s.exact p lt).0 here) (λ (w : IsWithin p r). let z = w.0 in absurd (omega (arith, z, begin_is, lt))) (in_one p ranges r is),
        λ other. in_old p ranges r ((s.exact p lt).1 other),
      )

      late : place ≤ p → behind ≤ p → IsIn p all ↔ Differs a b p
      late over past = (λ is. absurd (none is), λ other. absurd (other (same p past less)))
        where
          none : IsIn p all → ⊥
          none (i, t, at, from, to) = let w = below i t at in omega (arith, w, to, past)

  pub one_more : IsSoFar a b end next all
  one_more = record {
    most = next_most;
    some = λ i t at. ⊎_elim (λ here. s.some i t here) (λ (x : (i ≡ length ranges) × (r ≡ t)). let l = longer in let u = ap (λ (v : ByteRange). v.begin) x.1 in let e = ap (λ (v : ByteRange). v.end) x.1 in omega (arith, l, u, e, begin_is, end_is)) (which ranges r i t at);
    apart = λ i t u at after. ⊎_elim
        (λ (here : slice_get ranges (i + 1) ≡ Some u). ⊎_elim (λ first. s.apart i t u first here)
        (λ (x : (i ≡ length ranges) × (r ≡ t)). let n = slice_get_within ranges (i + 1) u here in let e = x.0 in absurd (omega (arith, n, e))) (which ranges r i t at))
        (λ (x : (i + 1 ≡ length ranges) × (r ≡ u)). ⊎_elim
        (λ (first : slice_get ranges i ≡ Some t). let g = s.gap i t first low in let e = ap (λ (v : ByteRange). v.begin) x.1 in omega (arith, g, e, begin_is))
        (λ (y : (i ≡ length ranges) × (r ≡ t)). let m = x.0 in let n = y.0 in absurd (omega (arith, m, n))) (which ranges r i t at))
        (which ranges r (i + 1) u after);
    within = λ i t at. let w = below i t at in omega (arith, w, next_least);
    gap = λ i t at more. let w = below i t at in let f = further more in omega (arith, w, f);
    exact = at_place;
    found = next_found;
  }

  pub nearer : end - next < end - place
  nearer = let l = longer in omega (arith, l, next_least, next_most, low)

-- past the end of both there is nothing
past_end : (xs : List ℕ) (p : ℕ) → length xs ≤ p → slice_get xs p ≡ None
past_end [] p le = refl
past_end (x ∷ xs) zero le = absurd (omega (arith, le))
past_end (x ∷ xs) (suc p) le = past_end xs p (omega (arith, le))

pub all_found : (a b : List ℕ) (end place : ℕ) (ranges : List ByteRange) → IsSoFar a b end place ranges → length a ≤ end → length b ≤ end → end ≤ place → AreDifferences a b ranges
all_found a b end place ranges s a_short b_short last = record { some = s.some; apart = s.apart; exact = λ p. ⊎_elim (λ (lt : p < place). s.exact p lt) (λ (le : place ≤ p). past p le) (cases_lt p place) }
  where
    past : (p : ℕ) → place ≤ p → IsIn p ranges ↔ Differs a b p
    past p le = (λ is. absurd (none is), λ other. absurd (other (past_end a p (omega (arith, a_short, last, le)) ∙ sym (past_end b p (omega (arith, b_short, last, le))))))
      where
        none : IsIn p ranges → ⊥
        none (i, r, at, from, to) = let w = s.within i r at in omega (arith, w, to, le)
