-- Whether a rising row has a number.
use Rattle.std.proofs.Common.{ℕ, ◌≡◌, ◌≤◌, ◌<◌, ◌⊎◌, inl, inr, true, false, refl, sym, ap, ◌∙◌, List, length, get_or, arith}
use Rattle.std.specs.Prelude.{Result, Ok, Err, is_ok, MatchResult, Contains}
use Rattle.std.specs.List.Sorted.{IsStrictlySortedBy, IsBinarySearchResult}
use Rattle.std.specs.Ordering.{nat_cmp}
use Rattle.std.proofs.lemmas.Grind.{get_or_default_zero}
use Rattle.std.proofs.lemmas.List.Sorted.{searched}
use Rattle.std.proofs.lemmas.Map.Keys.{below_from_sorted}
use Rattle.pass_plain.proofs.Lists.{below_or}

rising : (row : List ℕ) → IsStrictlySortedBy nat_cmp row → (i j : ℕ) → i ≤ j → j < length row → get_or row i 0 ≤ get_or row j 0
rising row up i j low within = at_order (below_or i j)
  where
    at_order : (i < j) ⊎ ((j < i) ⊎ (i ≡ j)) → get_or row i 0 ≤ get_or row j 0
    at_order (inl less) = let z = below_from_sorted row i j 0 up less within in omega (arith, z)
    at_order (inr (inl over)) = absurd (omega (arith, low, over))
    at_order (inr (inr same)) = let z = ap (λ k. get_or row k 0) same in omega (arith, z)

-- a search by halves finds it exactly where it is there
pub found_there : (row : List ℕ) (x : ℕ) (r : Result ℕ ℕ) → IsStrictlySortedBy nat_cmp row → IsBinarySearchResult (λ y. nat_cmp y x) row r → (is_ok r ≡ true → Contains row x) × (Contains row x → is_ok r ≡ true)
found_there row x r up found = at_result r (searched row x r found (rising row up))
  where
    at_result : (r : Result ℕ ℕ) → MatchResult r (λ i. (i < length row) × (get_or row i 0 ≡ x)) (λ i. (i ≤ length row) × ((k : ℕ) → k < i → get_or row k 0 < x) × ((k : ℕ) → i ≤ k → k < length row → x < get_or row k 0))
        → (is_ok r ≡ true → Contains row x) × (Contains row x → is_ok r ≡ true)
    at_result (Ok i) (within, is) = (λ so. (i, within, get_or_default_zero row i x within ∙ is), λ there. refl)
    at_result (Err i) (most, below, above) = (λ so. absurd (let z : false ≡ true = so in cc), λ (k, within, is). absurd (at_order k within (sym (get_or_default_zero row k x within) ∙ is) (below_or k i)))
      where
        at_order : (k : ℕ) → k < length row → get_or row k 0 ≡ x → (k < i) ⊎ ((i < k) ⊎ (k ≡ i)) → ⊥
        at_order k within is (inl less) = let z = below k less in omega (arith, z, is)
        at_order k within is (inr (inl over)) = let z = above k (omega (arith, over)) within in omega (arith, z, is)
        at_order k within is (inr (inr same)) = let z = above k (omega (arith, same)) within in omega (arith, z, is)
