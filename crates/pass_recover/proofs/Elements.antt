-- Places in lists that are mapped, filtered and written.
use Rattle.std.proofs.Common.{◌≡◌, ◌∙◌, ◌⊎◌, ℕ, List, [], ◌∷◌, map, refl, sym, ap, arith, inl, inr}
use Rattle.std.specs.Prelude.{zero, suc, Option, Some, None, slice_get, slice_set, filter_map}
use Rattle.std.specs.List.{cons_option}
use Rattle.pass_plain.proofs.Lists.{some_is}

-- what a partial map keeps

pub in_filter_mapped : {X Y : Type 0} (f : X → Option Y) (xs : List X) (i : ℕ) (x : X) (y : Y) → slice_get xs i ≡ Some x → f x ≡ Some y → (j : ℕ) × (slice_get (filter_map f xs) j ≡ Some y)
in_filter_mapped f [] i x y at is = absurd (cc)
in_filter_mapped f (z ∷ xs) zero x y at is = (0, ap (λ o. slice_get (cons_option o (filter_map f xs)) 0) (ap f (some_is z x at) ∙ is))
in_filter_mapped {X} {Y} f (z ∷ xs) (suc i) x y at is = by_first (f z) (in_filter_mapped f xs i x y at is)
  where
    by_first : (o : Option Y) → (j : ℕ) × (slice_get (filter_map f xs) j ≡ Some y) → (j : ℕ) × (slice_get (cons_option o (filter_map f xs)) j ≡ Some y)
    by_first None there = there
    by_first (Some w) there = (suc there.0, there.1)

-- an element is replaced

pub set_at : {X : Type 0} (xs : List X) (n : ℕ) (x : X) (i : ℕ) (y : X) → slice_get (slice_set xs n x) i ≡ Some y → ((i ≡ n) × (x ≡ y)) ⊎ ((i ≡ n → ⊥) × (slice_get xs i ≡ Some y))
set_at [] n x i y at = absurd (cc)
set_at (z ∷ xs) zero x zero y at = inl (refl, some_is x y at)
set_at (z ∷ xs) zero x (suc i) y at = inr ((λ e. absurd (omega (arith, e))), at)
set_at (z ∷ xs) (suc n) x zero y at = inr ((λ e. absurd (omega (arith, e))), at)
set_at (z ∷ xs) (suc n) x (suc i) y at = elim (set_at xs n x i y at) [
  | inl l ↦ inl ((let e = l.0 in let z : suc i ≡ suc n = omega (arith, e) in z), l.1)
  | inr r ↦ inr ((λ e. r.0 (omega (arith, e))), r.1)
]

pub set_here : {X : Type 0} (xs : List X) (n : ℕ) (x y : X) → slice_get xs n ≡ Some y → slice_get (slice_set xs n x) n ≡ Some x
set_here [] n x y at = absurd (cc)
set_here (z ∷ xs) zero x y at = refl
set_here (z ∷ xs) (suc n) x y at = set_here xs n x y at

pub set_other : {X : Type 0} (xs : List X) (n : ℕ) (x : X) (i : ℕ) → (i ≡ n → ⊥) → slice_get (slice_set xs n x) i ≡ slice_get xs i
set_other [] n x i other = refl
set_other (z ∷ xs) zero x zero other = absurd (other refl)
set_other (z ∷ xs) zero x (suc i) other = refl
set_other (z ∷ xs) (suc n) x zero other = refl
set_other (z ∷ xs) (suc n) x (suc i) other = set_other xs n x i (λ e. other (omega (arith, e)))

pub set_mapped : {X Y : Type 0} (f : X → Y) (xs : List X) (n : ℕ) (x y : X) → slice_get xs n ≡ Some y → f x ≡ f y → map f (slice_set xs n x) ≡ map f xs
set_mapped f [] n x y at same = refl
set_mapped f (z ∷ xs) zero x y at same = ap (λ v. v ∷ map f xs) (same ∙ ap f (sym (some_is z y at)))
set_mapped f (z ∷ xs) (suc n) x y at same = ap (λ l. f z ∷ l) (set_mapped f xs n x y at same)

pub in_mapped : {X Y : Type 0} (f : X → Y) (xs : List X) (i : ℕ) (x : X) → slice_get xs i ≡ Some x → slice_get (map f xs) i ≡ Some (f x)
in_mapped f [] i x at = absurd (cc)
in_mapped f (y ∷ xs) zero x at = ap (λ v. Some (f v)) (some_is y x at)
in_mapped f (y ∷ xs) (suc i) x at = in_mapped f xs i x at
