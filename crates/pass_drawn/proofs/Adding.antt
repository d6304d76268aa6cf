-- Sums over lists, in one order or another.
use Rattle.std.proofs.Common.{◌≡◌, ◌<◌, ◌≤◌, ◌+◌, ◌-◌, ℕ, zero, suc, List, [], ◌∷◌, length, map, refl, ap, sym, ◌∙◌, arith, Bool, true, false, ◌==◌, cond}
use Rattle.std.specs.Prelude.{Some, slice_get, filter, sum_by}
use Rattle.std.specs.List.{range_with_len, enumerate_from}
use Rattle.std.proofs.lemmas.Bool.Decides.{nat_tests}
use Rattle.std.proofs.lemmas.List.Sums.{sum_by-cons}
use Rattle.pass_plain.proofs.Lists.{same_numbers, some_is}

-- the same sum, by what stands in the list
pub sum_by-same : {X : Type 0} (f g : X → ℕ) (xs : List X) → ((k : ℕ) (x : X) → slice_get xs k ≡ Some x → f x ≡ g x) → sum_by f xs ≡ sum_by g xs
sum_by-same f g [] same = refl
sum_by-same f g (x ∷ xs) same =
    let a = sum_by-cons f x xs in
    let b = sum_by-cons g x xs in
    let here = same 0 x refl in
    let later = sum_by-same f g xs (λ k y at. same (suc k) y at) in
    omega (arith, a, b, here, later)

pub sum_by-none : {X : Type 0} (f : X → ℕ) (xs : List X) → ((x : X) → f x ≡ 0) → sum_by f xs ≡ 0
sum_by-none f [] none = refl
sum_by-none f (x ∷ xs) none =
    let a = sum_by-cons f x xs in
    let here = none x in
    let later = sum_by-none f xs none in
    omega (arith, a, here, later)

pub sum_by-plus : {X : Type 0} (f g : X → ℕ) (xs : List X) → sum_by (λ x. f x + g x) xs ≡ sum_by f xs + sum_by g xs
sum_by-plus f g [] = refl
sum_by-plus f g (x ∷ xs) =
    let a = sum_by-cons f x xs in
    let b = sum_by-cons g x xs in
    let c = sum_by-cons (λ x. f x + g x) x xs in
    let later = sum_by-plus f g xs in
    omega (arith, a, b, c, later)

-- a sum of sums in the other order
pub sum_by-swap : {X Y : Type 0} (f : X → Y → ℕ) (xs : List X) (ys : List Y) → sum_by (λ x. sum_by (f x) ys) xs ≡ sum_by (λ y. sum_by (λ x. f x y) xs) ys
sum_by-swap f [] ys = sym (sum_by-none (λ y. 0) ys (λ y. refl))
sum_by-swap f (x ∷ xs) ys =
    let a = sum_by-cons (λ x. sum_by (f x) ys) x xs in
    let later = sum_by-swap f xs ys in
    let c = sum_by-plus (f x) (λ y. sum_by (λ x. f x y) xs) ys in
    let d = sum_by-same (λ y. sum_by (λ x. f x y) (x ∷ xs)) (λ y. f x y + sum_by (λ x. f x y) xs) ys (λ k y at. sum_by-cons (λ x. f x y) x xs) in
    omega (arith, a, later, c, d)

-- one number of a range
pub sum_by-miss : (n k x a : ℕ) → k < a → sum_by (λ j. cond (k == j) x 0) (range_with_len a n) ≡ 0
sum_by-miss zero k x a above = refl
sum_by-miss (suc n) k x a above =
    let c = sum_by-cons (λ j. cond (k == j) x 0) a (range_with_len (a + 1) n) in
    let apart : (k == a) ≡ false = grind (arith, nat_tests) in
    let here : ◌≡◌ {A = ℕ} (cond (k == a) x 0) 0 = ap (λ b. cond b x 0) apart in
    let later = sum_by-miss n k x (a + 1) (omega (arith, above)) in
    omega (arith, c, here, later)

hit_if : (n k x a : ℕ) → a ≤ k → (a + 1 ≤ k → sum_by (λ j. cond (k == j) x 0) (range_with_len (a + 1) n) ≡ x) → (b : Bool) → (k == a) ≡ b
    → cond b x 0 + sum_by (λ j. cond (k == j) x 0) (range_with_len (a + 1) n) ≡ x
hit_if n k x a least later true t =
    let same = same_numbers k a t in
    let rest = sum_by-miss n k x (a + 1) (omega (arith, same)) in
    omega (arith, rest)
hit_if n k x a least later false t =
    let apart : a < k = grind (arith, nat_tests, least, t) in
    let rest = later (omega (arith, apart)) in
    omega (arith, rest)

pub sum_by-hit : (n k x a : ℕ) → a ≤ k → k < a + n → sum_by (λ j. cond (k == j) x 0) (range_with_len a n) ≡ x
sum_by-hit zero k x a least most = absurd (omega (arith, least, most))
sum_by-hit (suc n) k x a least most =
    sum_by-cons (λ j. cond (k == j) x 0) a (range_with_len (a + 1) n)
    ∙ hit_if n k x a least (λ above. sum_by-hit n k x (a + 1) above (omega (arith, most))) (k == a) refl

-- what passes a filter, each with its place
pub sum_by-placed : {X : Type 0} (p : X → Bool) (g : X → ℕ) (n : ℕ) (xs : List X)
    → sum_by (λ x. cond (p x) (g x) 0) xs ≡ sum_by (λ (s : ℕ × X). g s.1) (filter (λ (s : ℕ × X). p s.1) (enumerate_from n xs))
sum_by-placed p g n [] = refl
sum_by-placed {X = X} p g n (x ∷ xs) =
    sum_by-cons (λ x. cond (p x) (g x) 0) x xs ∙ ap (λ m. cond (p x) (g x) 0 + m) (sum_by-placed p g (n + 1) xs) ∙ at_test (p x)
  where
    rest : List (ℕ × X)
    rest = filter (λ (s : ℕ × X). p s.1) (enumerate_from (n + 1) xs)

    at_test : (b : Bool) → cond b (g x) 0 + sum_by (λ (s : ℕ × X). g s.1) rest ≡ sum_by (λ (s : ℕ × X). g s.1) (cond b ((n, x) ∷ rest) rest)
    at_test true = let c = sum_by-cons (λ (s : ℕ × X). g s.1) (n, x) rest in omega (arith, c)
    at_test false = omega arith

pub sum_by-filter : {X : Type 0} (p : X → Bool) (g : X → ℕ) (xs : List X) → sum_by g (filter p xs) ≡ sum_by (λ x. cond (p x) (g x) 0) xs
sum_by-filter p g [] = refl
sum_by-filter p g (x ∷ xs) = at_test (p x) ∙ ap (λ m. cond (p x) (g x) 0 + m) (sum_by-filter p g xs) ∙ sym (sum_by-cons (λ x. cond (p x) (g x) 0) x xs)
  where
    at_test : (b : Bool) → sum_by g (cond b (x ∷ filter p xs) (filter p xs)) ≡ cond b (g x) 0 + sum_by g (filter p xs)
    at_test true = sum_by-cons g x (filter p xs)
    at_test false = omega arith

pub sum_by-map : {X Y : Type 0} (f : X → Y) (g : Y → ℕ) (xs : List X) → sum_by g (map f xs) ≡ sum_by (λ x. g (f x)) xs
sum_by-map f g [] = refl
sum_by-map f g (x ∷ xs) =
    let a = sum_by-cons g (f x) (map f xs) in
    let b = sum_by-cons (λ x. g (f x)) x xs in
    let later = sum_by-map f g xs in
    omega (arith, a, b, later)

pub sum_by-ones : {X : Type 0} (xs : List X) → sum_by (λ x. 1) xs ≡ length xs
sum_by-ones [] = refl
sum_by-ones (x ∷ xs) = let a = sum_by-cons (λ x. 1) x xs in let later = sum_by-ones xs in omega (arith, a, later)

-- a list's sum by the places of its elements
pub sum_by-places : {X : Type 0} (f : ℕ → ℕ) (h : X → ℕ) (a : ℕ) (xs : List X) → ((k : ℕ) (x : X) → slice_get xs k ≡ Some x → f (a + k) ≡ h x)
    → sum_by f (range_with_len a (length xs)) ≡ sum_by h xs
sum_by-places f h a [] each = refl
sum_by-places f h a (x ∷ xs) each =
    let c = sum_by-cons f a (range_with_len (a + 1) (length xs)) in
    let d = sum_by-cons h x xs in
    let here : f a ≡ h x = ap f (let z : a ≡ a + 0 = omega arith in z) ∙ each 0 x refl in
    let later = sum_by-places f h (a + 1) xs (λ k y at. ap f (let z : a + 1 + k ≡ a + suc k = omega arith in z) ∙ each (suc k) y at) in
    omega (arith, c, d, here, later)

-- where only the last element counts
pub sum_by-last : {X : Type 0} (f : X → ℕ) (xs : List X) (x : X) → ((k : ℕ) (y : X) → slice_get xs k ≡ Some y → suc k < length xs → f y ≡ 0)
    → slice_get xs (length xs - 1) ≡ Some x → sum_by f xs ≡ f x
sum_by-last f [] x before last = absurd (cc)
sum_by-last f (y ∷ []) x before last = (let z : 0 + f y ≡ f y = omega arith in z) ∙ ap f (some_is y x last)
sum_by-last f (y ∷ z ∷ ys) x before last =
    let c = sum_by-cons f y (z ∷ ys) in
    let here = before 0 y refl (omega arith) in
    let later = sum_by-last f (z ∷ ys) x (λ k w at short. before (suc k) w at (omega (arith, short)))
    (ap (λ n. slice_get (y ∷ z ∷ ys) n) (let m : suc (length (z ∷ ys) - 1) ≡ length (y ∷ z ∷ ys) - 1 = omega arith in m) ∙ last) in
    omega (arith, c, here, later)

-- the numbers of a range
pub in_range : (a n k x : ℕ) → slice_get (range_with_len a n) k ≡ Some x → (a ≤ x) × (x < a + n)
in_range a zero k x at = absurd (cc)
in_range a (suc n) zero x at = let same = some_is a x at in (omega (arith, same), omega (arith, same))
in_range a (suc n) (suc k) x at = let (least, most) = in_range (a + 1) n k x at in (omega (arith, least), omega (arith, most))
