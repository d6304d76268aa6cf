-- Where a search by halves finds a value, or would put it, and the row with it.
use Rattle.std.proofs.Common.{ℕ, ◌≡◌, ◌≤◌, ◌<◌, ◌+◌, ◌-◌, zero, suc, false, ◌⊎◌, inl, inr, refl, sym, ap, ◌∙◌, subst, List, [], ◌∷◌, length, get_or, arith}
use Rattle.std.specs.Prelude.{Contains}
use Rattle.std.proofs.Common.{Ordering}
use Rattle.std.specs.Cmp.{IsTotalOrder}
use Rattle.std.specs.Ordering.{ordering_reverse, ordering_index, is_lt, match_ordering}
use Rattle.std.specs.declared.cmp.Ordering.TheVariants.{Less, Equal, Greater}
use Rattle.std.specs.BTreeSet.{insert_key}
use Rattle.std.specs.List.{AllByRecursion, HoldsAt, AllWithin, insert}
use Rattle.std.specs.List.Sorted.{IsStrictlySortedBy, IsNonDecreasingBy}
use Rattle.std.proofs.lemmas.Cmp.{tied_back, alike_right}
use Rattle.std.proofs.lemmas.List.Sorted.{searchable_from_sorted}
use Rattle.std.proofs.lemmas.List.Elements.{Contains-append_cases, Contains-append_left, Contains-append_right, Contains-push, Contains-push_cases}
use Rattle.std.proofs.lemmas.Map.Keys.{Less-from_sorted, sorted_head, sorted_tail}

module _ {K : Type 0} {R : K → K → Ordering} (o : IsTotalOrder R) where
  -- the places of a row below and above a value
  pub searchable : (xs : List K) (x : K) → IsStrictlySortedBy R xs → IsNonDecreasingBy (λ y. ordering_index (R y x)) xs
  searchable xs x up = searchable_from_sorted o (λ y. y) xs x (λ k d low below. not_below k d below)
    where
      not_below : (k : ℕ) (d : K) → k + 1 < length xs → is_lt (R (get_or xs (k + 1) d) (get_or xs k d)) ≡ false
      not_below k d below = ap is_lt (o.antisymm (get_or xs (k + 1) d) (get_or xs k d) ∙ ap ordering_reverse (Less-from_sorted R xs k (k + 1) d up (omega arith) below))

  -- a row whose last value is below another is below it
  pub all_below : (xs : List K) (x : K) → ((d : K) → R (get_or xs (length xs - 1) d) x ≡ Less) → IsNonDecreasingBy (λ y. ordering_index (R y x)) xs → AllWithin (λ y. R y x ≡ Less) xs 0 (length xs)
  all_below xs x less up k d low below = least (R (get_or xs k d) x) (subst (λ r. ordering_index (R (get_or xs k d) x) ≤ ordering_index r) (less d) (up k (length xs - 1) d (omega (arith, below)) (omega (arith, below))))
    where
      least : (r : Ordering) → ordering_index r ≤ 0 → r ≡ Less
      least Less most = refl
      least Equal most = absurd (omega (arith, most))
      least Greater most = absurd (omega (arith, most))

  -- what is below a value at a place is below each value of the row from there on
  above_all : (x : K) (zs : List K) → AllByRecursion (λ y. R x y ≡ Less) zs → (i : ℕ) (d : K) → i < length zs → R x (get_or zs i d) ≡ Less
  above_all x [] all i d below = absurd (omega (arith, below))
  above_all x (z ∷ zs) all zero d below = all.0
  above_all x (z ∷ zs) all (suc i) d below = above_all x zs all.1 i d (omega (arith, below))

  turned : (x y : K) → R x y ≡ Less → R y x ≡ Greater
  turned x y below = o.antisymm y x ∙ ap ordering_reverse below

  turned_back : (x y : K) → R x y ≡ Greater → R y x ≡ Less
  turned_back x y above = o.antisymm y x ∙ ap ordering_reverse above

  -- a value that is there already
  pub found : (xs : List K) (x : K) → IsStrictlySortedBy R xs → (i : ℕ) → i < length xs → HoldsAt (λ y. R y x ≡ Equal) xs i → insert_key R xs x ≡ xs
  found [] x up i below here = absurd (omega (arith, below))
  found (z ∷ zs) x up zero below here = ap (λ r. match_ordering r (x ∷ z ∷ zs) (z ∷ zs) (z ∷ insert_key R zs x)) (tied_back o z x (here z))
  found (z ∷ zs) x up (suc i) below here =
      let y : K = get_or zs i z in
      let less : R z y ≡ Less = above_all z zs (sorted_head R z zs up) i z (omega (arith, below)) in
      let past : R x z ≡ Greater = turned z x (alike_right o x y z (tied_back o y x (here z)) ∙ less) in
      ap (λ r. match_ordering r (x ∷ z ∷ zs) (z ∷ zs) (z ∷ insert_key R zs x)) past
      ∙ ap (λ ys. z ∷ ys) (found zs x (sorted_tail R z zs up) i (omega (arith, below)) here)

  -- a value that is not there
  pub placed : (xs : List K) (x : K) (i : ℕ) → i ≤ length xs → AllWithin (λ y. R y x ≡ Less) xs 0 i → AllWithin (λ y. R y x ≡ Greater) xs i (length xs) → insert_key R xs x ≡ insert xs i x
  placed [] x zero most below above = refl
  placed [] x (suc i) most below above = absurd (omega (arith, most))
  placed (z ∷ zs) x zero most below above =
      ap (λ r. match_ordering r (x ∷ z ∷ zs) (z ∷ zs) (z ∷ insert_key R zs x)) (turned_back z x (above 0 z (omega arith) (omega arith)))
  placed (z ∷ zs) x (suc i) most below above =
      ap (λ r. match_ordering r (x ∷ z ∷ zs) (z ∷ zs) (z ∷ insert_key R zs x)) (turned z x (below 0 z (omega arith) (omega arith)))
      ∙ ap (λ ys. z ∷ ys) (placed zs x i (omega (arith, most)) (λ k d low high. below (suc k) d (omega arith) (omega (arith, high))) (λ k d low high. above (suc k) d (omega (arith, low)) (omega (arith, high))))

  -- the row stays in order
  all_put : (a : K) (xs : List K) (x : K) → R a x ≡ Less → AllByRecursion (λ y. R a y ≡ Less) xs → AllByRecursion (λ y. R a y ≡ Less) (insert_key R xs x)
  all_put a [] x less all = (less, tt)
  all_put a (z ∷ zs) x less all = at_test (R x z) (λ l. all_put a zs x less l)
    where
      at_test : (r : Ordering) → (AllByRecursion (λ y. R a y ≡ Less) zs → AllByRecursion (λ y. R a y ≡ Less) (insert_key R zs x)) → AllByRecursion (λ y. R a y ≡ Less) (match_ordering r (x ∷ z ∷ zs) (z ∷ zs) (z ∷ insert_key R zs x))
      at_test Less later = (less, all)
      at_test Equal later = all
      at_test Greater later = (all.0, later all.1)

  all_above : (x z : K) (zs : List K) → R x z ≡ Less → AllByRecursion (λ y. R z y ≡ Less) zs → AllByRecursion (λ y. R x y ≡ Less) zs
  all_above x z [] less all = tt
  all_above x z (y ∷ ys) less all = (o.trans x z y less all.0, all_above x z ys less all.1)

  pub put_sorted : (xs : List K) (x : K) → IsStrictlySortedBy R xs → IsStrictlySortedBy R (insert_key R xs x)
  unfolding IsStrictlySortedBy
  put_sorted [] x up = (tt, tt)
  put_sorted (z ∷ zs) x up = at_test (R x z) refl (put_sorted zs x up.1)
    where
      at_test : (r : Ordering) → R x z ≡ r → IsStrictlySortedBy R (insert_key R zs x) → IsStrictlySortedBy R (match_ordering r (x ∷ z ∷ zs) (z ∷ zs) (z ∷ insert_key R zs x))
      at_test Less is rest = ((is, all_above x z zs is up.0), up)
      at_test Equal is rest = up
      at_test Greater is rest = (all_put z zs x (turned_back x z is) up.0, rest)

  -- the row has the value and what it had, and nothing else

  first : (z : K) (zs : List K) → Contains (z ∷ zs) z
  first z zs = Contains-append_left (z ∷ []) zs z (Contains-push [] z)

  later : (z : K) (zs : List K) (y : K) → Contains zs y → Contains (z ∷ zs) y
  later z zs y h = Contains-append_right (z ∷ []) zs y h

  split : (z : K) (zs : List K) (y : K) → Contains (z ∷ zs) y → (z ≡ y) ⊎ Contains zs y
  split z zs y h = elim (Contains-append_cases (z ∷ []) zs y h) [
    | inl here ↦ elim (Contains-push_cases [] z y here) [ inl none ↦ (let e = none.1 in absurd (omega (arith, e))) | inr is ↦ inl is ]
    | inr there ↦ inr there
  ]

  module _ (exact : (x y : K) → R x y ≡ Equal → x ≡ y) where
    pub put_has : (xs : List K) (x : K) → Contains (insert_key R xs x) x
    put_has [] x = first x []
    put_has (z ∷ zs) x = at_test (R x z) refl (put_has zs x)
      where
        at_test : (r : Ordering) → R x z ≡ r → Contains (insert_key R zs x) x → Contains (match_ordering r (x ∷ z ∷ zs) (z ∷ zs) (z ∷ insert_key R zs x)) x
        at_test Less is rest = first x (z ∷ zs)
        at_test Equal is rest = subst (λ y. Contains (z ∷ zs) y) (sym (exact x z is)) (first z zs)
        at_test Greater is rest = later z (insert_key R zs x) x rest

  pub put_keeps : (xs : List K) (x y : K) → Contains xs y → Contains (insert_key R xs x) y
  put_keeps [] x y h = later x [] y h
  put_keeps (z ∷ zs) x y h = at_test (R x z) (λ l. put_keeps zs x y l)
    where
      at_test : (r : Ordering) → (Contains zs y → Contains (insert_key R zs x) y) → Contains (match_ordering r (x ∷ z ∷ zs) (z ∷ zs) (z ∷ insert_key R zs x)) y
      at_test Less rest = later x (z ∷ zs) y h
      at_test Equal rest = h
      at_test Greater rest = elim (split z zs y h) [ inl is ↦ subst (λ w. Contains (z ∷ insert_key R zs x) w) is (first z (insert_key R zs x)) | inr there ↦ later z (insert_key R zs x) y (rest there) ]

  pub put_only : (xs : List K) (x y : K) → Contains (insert_key R xs x) y → Contains xs y ⊎ (x ≡ y)
  put_only [] x y h = elim (split x [] y h) [ inl is ↦ inr is | inr there ↦ inl there ]
  put_only (z ∷ zs) x y h = at_test (R x z) h (λ l. put_only zs x y l)
    where
      at_test : (r : Ordering) → Contains (match_ordering r (x ∷ z ∷ zs) (z ∷ zs) (z ∷ insert_key R zs x)) y → (Contains (insert_key R zs x) y → Contains zs y ⊎ (x ≡ y)) → Contains (z ∷ zs) y ⊎ (x ≡ y)
      at_test Less h rest = elim (split x (z ∷ zs) y h) [ inl is ↦ inr is | inr there ↦ inl there ]
      at_test Equal h rest = inl h
      at_test Greater h rest = elim (split z (insert_key R zs x) y h) [
        | inl is ↦ inl (subst (λ w. Contains (z ∷ zs) w) is (first z zs))
        | inr there ↦ elim (rest there) [ inl old ↦ inl (later z zs y old) | inr is ↦ inr is ]
      ]
