-- Lists in another order.
use Rattle.std.proofs.Common.{◌≡◌, length, arith, List, [], ◌∷◌, ◌++◌, Bool, true, false, filter, cond, ap, ◌∙◌, sym, subst, append-nil, append_assoc, refl, IsPermutation}
use Rattle.std.proofs.lemmas.List.Sorted.{IsPermutation-refl, IsPermutation-sym, IsPermutation-trans, IsPermutation-cons, IsPermutation-middle, IsPermutation-to_front, IsPermutation-append_left, IsPermutation-append_right}
use Rattle.std.proofs.lemmas.List.Elements.{filter-append}

module _ {X : Type 0} where
  -- the last of what is left goes to those that it joins
  pub moves_over : (all joined rest more : List X) (x : X) → IsPermutation all (joined ++ (rest ++ x ∷ [])) → IsPermutation (x ∷ joined) more → IsPermutation all (more ++ rest)
  moves_over all joined rest more x before joins =
      IsPermutation-trans all (joined ++ (rest ++ x ∷ [])) (more ++ rest) before
      (IsPermutation-trans (joined ++ (rest ++ x ∷ [])) (joined ++ x ∷ rest) (more ++ rest)
      (IsPermutation-append_right joined (rest ++ x ∷ []) (x ∷ rest) (IsPermutation-to_front rest x))
      (IsPermutation-trans (joined ++ x ∷ rest) (x ∷ (joined ++ rest)) (more ++ rest)
      (IsPermutation-middle joined x rest)
      (IsPermutation-append_left rest (x ∷ joined) more joins)))

  -- a list is in its own order, and in that of an equal one
  pub same : (xs ys : List X) → xs ≡ ys → IsPermutation xs ys
  same xs ys e = subst (IsPermutation xs) e (IsPermutation-refl xs)

  pub filter_last_yes : (p : X → Bool) (xs : List X) (x : X) → p x ≡ true → filter p (xs ++ x ∷ []) ≡ filter p xs ++ x ∷ []
  filter_last_yes p xs x passes = filter-append p xs (x ∷ []) ∙ ap (λ b. filter p xs ++ cond b (x ∷ []) []) passes

  pub filter_last_no : (p : X → Bool) (xs : List X) (x : X) → p x ≡ false → filter p (xs ++ x ∷ []) ≡ filter p xs
  filter_last_no p xs x fails = filter-append p xs (x ∷ []) ∙ (ap (λ b. filter p xs ++ cond b (x ∷ []) []) fails ∙ append-nil (filter p xs))

  -- the last of the children joins, where it passes the test
  pub joins : (p : X → Bool) (all joined more born rest : List X) (x : X) → born ≡ rest ++ x ∷ [] → p x ≡ true
      → IsPermutation all (joined ++ filter p born) → IsPermutation (x ∷ joined) more → IsPermutation all (more ++ filter p rest)
  joins p all joined more born rest x is passes before moved =
      moves_over all joined (filter p rest) more x
      (subst (λ ys. IsPermutation all (joined ++ ys)) (ap (filter p) is ∙ filter_last_yes p rest x passes) before) moved

  -- and is left out, where it does not
  pub passes_by : (p : X → Bool) (all joined born rest : List X) (x : X) → born ≡ rest ++ x ∷ [] → p x ≡ false
      → IsPermutation all (joined ++ filter p born) → IsPermutation all (joined ++ filter p rest)
  passes_by p all joined born rest x is fails before = subst (λ ys. IsPermutation all (joined ++ ys)) (ap (filter p) is ∙ filter_last_no p rest x fails) before

  -- a list in another order, with one more at its end
  pub through_last : (xs ys zs : List X) (x : X) → IsPermutation xs ys → zs ≡ ys ++ x ∷ [] → IsPermutation (x ∷ xs) zs
  through_last xs ys zs x h is =
      IsPermutation-trans (x ∷ xs) (x ∷ ys) zs (IsPermutation-cons x xs ys h)
      (subst (IsPermutation (x ∷ ys)) (sym is) (IsPermutation-sym (ys ++ x ∷ []) (x ∷ ys) (IsPermutation-to_front ys x)))

  pub nil_of : (xs : List X) → length xs ≡ 0 → xs ≡ []
  nil_of [] e = refl
  nil_of (x ∷ xs) e = absurd (omega arith)

  -- the last of the first list goes to the end of the second
  pub carried : (all first second : List X) (x : X) → IsPermutation all ((first ++ x ∷ []) ++ second) → IsPermutation all (first ++ (second ++ x ∷ []))
  carried all first second x h =
      IsPermutation-trans all ((first ++ x ∷ []) ++ second) (first ++ (second ++ x ∷ [])) h
      (subst (λ l. IsPermutation l (first ++ (second ++ x ∷ []))) (sym (append_assoc first (x ∷ []) second))
      (IsPermutation-append_right first (x ∷ second) (second ++ x ∷ []) (IsPermutation-sym (second ++ x ∷ []) (x ∷ second) (IsPermutation-to_front second x))))

  -- the last of the first list comes to the front
  pub called : (first second : List X) (x : X) → IsPermutation ((first ++ x ∷ []) ++ second) (x ∷ (first ++ second))
  called first second x = subst (λ l. IsPermutation l (x ∷ (first ++ second))) (sym (append_assoc first (x ∷ []) second)) (IsPermutation-middle first x second)

  -- one that goes to the end of what is through, with what comes behind it
  pub behind : (first second : List X) (x : X) → IsPermutation (x ∷ (first ++ second)) ((first ++ x ∷ []) ++ second)
  behind first second x = IsPermutation-sym ((first ++ x ∷ []) ++ second) (x ∷ (first ++ second)) (called first second x)

  pub filter_none : (xs : List X) → filter (λ x. false) xs ≡ []
  filter_none [] = refl
  filter_none (x ∷ xs) = filter_none xs

  pub filter_all : (xs : List X) → filter (λ x. true) xs ≡ xs
  filter_all [] = refl
  filter_all (x ∷ xs) = ap (λ l. x ∷ l) (filter_all xs)
