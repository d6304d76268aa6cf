-- Ascending blocks that are looked through in order.
use Rattle.std.proofs.Common.{◌≡◌, ◌⊎◌, ◌<◌, ◌≤◌, ◌+◌, ℕ, zero, suc, List, [], ◌∷◌, length, ⊎_elim, refl, sym, ◌∙◌, ap, arith}
use Rattle.std.specs.Prelude.{Option, Some, None, slice_get, ◌==◌}
use Rattle.std.proofs.lemmas.Map.Entries.{place_from_lookup}
use Rattle.pass_plain.proofs.Lists.{some_is, same_numbers}
use Rattle.pass_clean.specs.Blocks.{IsRisingBy}
use Rattle.pass_vault.specs.Blocks.{IsCut}
use Rattle.pass_vault.specs.Pooled.{given_in}
use Rattle.pass_vault.proofs.Gathering.{given_found, place_low}

less_same_more : (a b : ℕ) → (a < b) ⊎ ((a ≡ b) ⊎ (b < a))
less_same_more a b = grind (arith)

earlier : (given : List (ℕ × List ℕ)) (place i : ℕ) (x : ℕ × List ℕ) → place < i → slice_get given i ≡ Some x → (y : ℕ × List ℕ) × (slice_get given place ≡ Some y)
earlier [] place i x low at = absurd (cc)
earlier (g ∷ given) zero i x low at = (g, refl)
earlier (g ∷ given) (suc place) zero x low at = absurd (omega (arith, low))
earlier (g ∷ given) (suc place) (suc i) x low at = earlier given place i x (omega (arith, low)) at

module _ (given : List (ℕ × List ℕ)) (rising : IsRisingBy given) (block place : ℕ) (cut : IsCut given block place) where
  -- the block at the place is the one that is looked for
  pub cut_here : (x : ℕ × List ℕ) → slice_get given place ≡ Some x → x.0 ≡ block → (given_in given block ≡ Some x.1) × IsCut given (block + 1) (place + 1)
  cut_here x here same = (by_found (given_in given block) refl, record { below = below; above = above })
    where
      by_found : (o : Option (List ℕ)) → given_in given block ≡ o → given_in given block ≡ Some x.1
      by_found None is = absurd (given_found given block place x here same is)
      by_found (Some bytes) is =
          let p = place_from_lookup (λ (b : ℕ). b == block) given bytes is in
          let its : p.1 ≡ block = same_numbers p.1 block p.3 in
          ⊎_elim
          (λ (less : p.0 < place). let low = cut.below p.0 (p.1, bytes) less p.2 in absurd (omega (arith, low, its)))
          (⊎_elim
          (λ (equal : p.0 ≡ place). is ∙ ap (λ (g : ℕ × List ℕ). Some g.1) (some_is (p.1, bytes) x (sym p.2 ∙ ap (slice_get given) equal ∙ here)))
          (λ (more : place < p.0). let high = rising place p.0 x (p.1, bytes) more here p.2 in absurd (omega (arith, high, its, same))))
          (less_same_more p.0 place)

      below : (i : ℕ) (y : ℕ × List ℕ) → i < place + 1 → slice_get given i ≡ Some y → y.0 < block + 1
      below i y low at = ⊎_elim
          (λ (less : i < place). let its = cut.below i y less at in omega (arith, its))
          (⊎_elim
          (λ (equal : i ≡ place). let its = ap (λ (g : ℕ × List ℕ). g.0) (some_is y x (sym at ∙ ap (slice_get given) equal ∙ here)) in omega (arith, its, same))
          (λ (more : place < i). absurd (omega (arith, low, more))))
          (less_same_more i place)

      above : (i : ℕ) (y : ℕ × List ℕ) → place + 1 ≤ i → slice_get given i ≡ Some y → block + 1 ≤ y.0
      above i y from at = let less : place < i = omega (arith, from) in let high = rising place i x y less here at in omega (arith, high, same)

  -- it isn't
  pub cut_beside : ((x : ℕ × List ℕ) → slice_get given place ≡ Some x → x.0 ≡ block → ⊥) → (given_in given block ≡ None) × IsCut given (block + 1) place
  cut_beside other = (by_found (given_in given block) refl, record { below = λ i y low at. let its = cut.below i y low at in omega (arith, its); above = above })
    where
      above : (i : ℕ) (y : ℕ × List ℕ) → place ≤ i → slice_get given i ≡ Some y → block + 1 ≤ y.0
      above i y from at = ⊎_elim
          (λ (less : i < place). absurd (omega (arith, less, from)))
          (⊎_elim
          (λ (equal : i ≡ place). ⊎_elim
          (λ (low : y.0 < block). let its = cut.above i y from at in absurd (omega (arith, its, low)))
          (⊎_elim (λ (same : y.0 ≡ block). absurd (other y (ap (slice_get given) (sym equal) ∙ at) same)) (λ (high : block < y.0). omega (arith, high)))
          (less_same_more y.0 block))
          (λ (more : place < i).
          let x = earlier given place i y more at in
          let its = cut.above place x.0 (omega arith) x.1 in
          let high = rising place i x.0 y more x.1 at in
          omega (arith, its, high)))
          (less_same_more i place)

      by_found : (o : Option (List ℕ)) → given_in given block ≡ o → given_in given block ≡ None
      by_found None is = is
      by_found (Some bytes) is =
          let p = place_from_lookup (λ (b : ℕ). b == block) given bytes is in
          let its : p.1 ≡ block = same_numbers p.1 block p.3 in
          ⊎_elim
          (λ (less : p.0 < place). let low = cut.below p.0 (p.1, bytes) less p.2 in absurd (omega (arith, low, its)))
          (λ (rest : (p.0 ≡ place) ⊎ (place < p.0)). let from : place ≤ p.0 = ⊎_elim (λ (equal : p.0 ≡ place). omega (arith, equal)) (λ (more : place < p.0). omega (arith, more)) rest in let high = above p.0 (p.1, bytes) from p.2 in absurd (omega (arith, high, its)))
          (less_same_more p.0 place)

  -- no block is there
  pub cut_past : length given ≤ place → (given_in given block ≡ None) × IsCut given (block + 1) place
  cut_past all = cut_beside (λ x at same. let low = place_low given place x at in absurd (omega (arith, low, all)))

  -- another one is
  pub cut_other : (x : ℕ × List ℕ) → slice_get given place ≡ Some x → (x.0 ≡ block → ⊥) → (given_in given block ≡ None) × IsCut given (block + 1) place
  cut_other x here other = cut_beside (λ y at same. other (ap (λ (g : ℕ × List ℕ). g.0) (some_is x y (sym here ∙ at)) ∙ same))
