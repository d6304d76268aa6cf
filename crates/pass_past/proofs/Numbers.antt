-- Numbers that are listed each once, ascending.
use Rattle.std.proofs.Common.{◌≡◌, ◌⊎◌, ℕ, ◌<◌, Bool, true, false, ◌||◌, List, [], ◌∷◌, inl, inr, ⊎_elim, refl, sym, ◌∙◌, ap, arith}
use Rattle.std.specs.Prelude.{fold}
use Rattle.std.specs.List.{list_any}
use Rattle.std.specs.Ordering.{nat_cmp, match_ordering}
use Rattle.std.specs.Cmp.{nat_cmp_is}
use Rattle.std.specs.declared.cmp.Ordering.{Ordering}
use Rattle.std.specs.declared.cmp.Ordering.TheVariants.{Less, Equal, Greater}
use Rattle.std.specs.BTreeSet.{insert_key}
use Rattle.std.specs.FinMap.{nat_cmp-IsAntisymmetric}
use Rattle.pass_plain.proofs.Lists.{below_or, or_none}

abbrev pub IsIn : ℕ → List ℕ → Type 0
IsIn n [] = ⊥
IsIn n (k ∷ ks) = (k ≡ n) ⊎ IsIn n ks

abbrev pub AreApart : List ℕ → Type 0
AreApart [] = Unit {0}
AreApart (k ∷ ks) = ((n : ℕ) → IsIn n ks → k < n) × AreApart ks

less : (k x : ℕ) → nat_cmp k x ≡ Less → k < x
less k x is = at_place (below_or k x)
  where
    at_place : (k < x) ⊎ ((x < k) ⊎ (k ≡ x)) → k < x
    at_place (inl below) = below
    at_place (inr (inl above)) = absurd (cc (is, nat_cmp_is k x Greater above))
    at_place (inr (inr same)) = absurd (cc (is, nat_cmp_is k x Equal same))

greater : (k x : ℕ) → nat_cmp k x ≡ Greater → x < k
greater k x is = at_place (below_or k x)
  where
    at_place : (k < x) ⊎ ((x < k) ⊎ (k ≡ x)) → x < k
    at_place (inl below) = absurd (cc (is, nat_cmp_is k x Less below))
    at_place (inr (inl above)) = above
    at_place (inr (inr same)) = absurd (cc (is, nat_cmp_is k x Equal same))

in_insert : (ks : List ℕ) (k n : ℕ) → IsIn n (insert_key nat_cmp ks k) → (k ≡ n) ⊎ IsIn n ks
in_insert [] k n here = here
in_insert (x ∷ xs) k n here = by_order (nat_cmp k x) here (in_insert xs k n)
  where
    by_order : (o : Ordering) → IsIn n (match_ordering o (k ∷ x ∷ xs) (x ∷ xs) (x ∷ insert_key nat_cmp xs k)) → (IsIn n (insert_key nat_cmp xs k) → (k ≡ n) ⊎ IsIn n xs)
        → (k ≡ n) ⊎ ((x ≡ n) ⊎ IsIn n xs)
    by_order Less here more = here
    by_order Equal here more = inr here
    by_order Greater (inl is) more = inr (inl is)
    by_order Greater (inr rest) more = ⊎_elim (λ is. inl is) (λ i. inr (inr i)) (more rest)

apart_insert : (ks : List ℕ) (k : ℕ) → AreApart ks → AreApart (insert_key nat_cmp ks k)
apart_insert [] k apart = (λ n none. absurd none, tt)
apart_insert (x ∷ xs) k apart = by_order (nat_cmp k x) refl (apart_insert xs k apart.1)
  where
    by_order : (o : Ordering) → nat_cmp k x ≡ o → AreApart (insert_key nat_cmp xs k) → AreApart (match_ordering o (k ∷ x ∷ xs) (x ∷ xs) (x ∷ insert_key nat_cmp xs k))
    by_order Less is rest = (λ n here. ⊎_elim (λ same. omega (arith, less k x is, same)) (λ i. omega (arith, less k x is, apart.0 n i)) here, apart)
    by_order Equal is rest = apart
    by_order Greater is rest = (λ n here. ⊎_elim (λ same. omega (arith, greater k x is, same)) (λ i. apart.0 n i) (in_insert xs k n here), rest)

pub apart_fold : (ks xs : List ℕ) → AreApart ks → AreApart (fold (insert_key nat_cmp) ks xs)
apart_fold ks [] apart = apart
apart_fold ks (x ∷ xs) apart = apart_fold (insert_key nat_cmp ks x) xs (apart_insert ks x apart)

-- whether one of them passes a test

once_more : (b c : Bool) → b || c ≡ b || (b || c)
once_more true c = refl
once_more false c = refl

swapped : (a b c : Bool) → a || (b || c) ≡ b || (a || c)
swapped true true c = refl
swapped true false c = refl
swapped false b c = refl

either : (a b c : Bool) → (a || b) || c ≡ b || (a || c)
either true true c = refl
either true false c = refl
either false b c = refl

any-insert : (p : ℕ → Bool) (ks : List ℕ) (k : ℕ) → list_any p (insert_key nat_cmp ks k) ≡ p k || list_any p ks
any-insert p [] k = refl
any-insert p (x ∷ xs) k = by_order (nat_cmp k x) refl (any-insert p xs k)
  where
    by_order : (o : Ordering) → nat_cmp k x ≡ o → list_any p (insert_key nat_cmp xs k) ≡ p k || list_any p xs
        → list_any p (match_ordering o (k ∷ x ∷ xs) (x ∷ xs) (x ∷ insert_key nat_cmp xs k)) ≡ p k || (p x || list_any p xs)
    by_order Less is rest = refl
    by_order Equal is rest =
        let same = nat_cmp-IsAntisymmetric k x is in
        once_more (p x) (list_any p xs) ∙ ap (λ n. p n || (p x || list_any p xs)) (sym same)
    by_order Greater is rest = ap (λ b. p x || b) rest ∙ swapped (p x) (p k) (list_any p xs)

pub any-fold : (p : ℕ → Bool) (ks xs : List ℕ) → list_any p (fold (insert_key nat_cmp) ks xs) ≡ list_any p ks || list_any p xs
any-fold p ks [] = sym (or_none (list_any p ks))
any-fold p ks (x ∷ xs) = any-fold p (insert_key nat_cmp ks x) xs ∙ ap (λ b. b || list_any p xs) (any-insert p ks x) ∙ either (p x) (list_any p ks) (list_any p xs)
