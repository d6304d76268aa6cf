-- What stands at a place of a list that is made of others: of two lists, of a part, of mapped or filtered elements.
use Rattle.std.proofs.Common.{◌≡◌, ◌<◌, ◌≤◌, ◌+◌, ◌-◌, ◌==◌, ℕ, zero, suc, List, [], ◌∷◌, ◌++◌, length, take, drop, map, get_or, refl, ap, sym, ◌∙◌, subst, arith, ◌⊎◌, inl, inr, Bool, true, false, ◌||◌, cond, append_assoc}
use Rattle.std.specs.Prelude.{Option, Some, None, Contains, slice_get, slice_set, filter, filter_map, find, zip, if◌then◌else◌}
use Rattle.std.specs.List.{AllByRecursion, cons_option, list_any, position_from, range_with_len}
use Rattle.std.proofs.Math.Seq.{drop-cons, take-add}
use Rattle.std.proofs.lemmas.List.{take_rest}
use Rattle.std.proofs.lemmas.List.Folds.{list_any-append}
use Rattle.std.proofs.lemmas.List.FromFn.{map-range_with_len_more}
use Rattle.std.proofs.lemmas.Option.{slice_get_within, get_or_from_slice_get}
use Rattle.pass_entry.proofs.Lists.{some_is, same_numbers, any_of, slice_get-front, le_or_above}

-- two lists, one behind the other
pub slice_get-last : {X : Type 0} (xs : List X) (x : X) → slice_get (xs ++ x ∷ []) (length xs) ≡ Some x
slice_get-last [] x = refl
slice_get-last (y ∷ xs) x = slice_get-last xs x

pub slice_get-right : {X : Type 0} (xs ys : List X) (j : ℕ) (x : X) → slice_get ys j ≡ Some x → slice_get (xs ++ ys) (length xs + j) ≡ Some x
slice_get-right [] ys j x at = ap (slice_get ys) (let z : 0 + j ≡ j = omega arith in z) ∙ at
slice_get-right (y ∷ xs) ys j x at = ap (slice_get (y ∷ (xs ++ ys))) (let z : length (y ∷ xs) + j ≡ suc (length xs + j) = omega arith in z) ∙ slice_get-right xs ys j x at

pub later_get : {X : Type 0} (xs ys : List X) (k : ℕ) (x : X) → length xs ≤ k → slice_get (xs ++ ys) k ≡ Some x → slice_get ys (k - length xs) ≡ Some x
later_get [] ys k x past e = ap (λ n. slice_get ys n) (let z : k - 0 ≡ k = omega arith in z) ∙ e
later_get (y ∷ xs) ys zero x past e = absurd (omega (arith, past))
later_get (y ∷ xs) ys (suc k) x past e =
    ap (λ n. slice_get ys n) (let z : suc k - length (y ∷ xs) ≡ k - length xs = omega arith in z) ∙ later_get xs ys k x (omega (arith, past)) e

pub in_either : {X : Type 0} (xs ys : List X) (i : ℕ) (x : X) → slice_get (xs ++ ys) i ≡ Some x → (slice_get xs i ≡ Some x) ⊎ ((j : ℕ) × (i ≡ length xs + j) × (slice_get ys j ≡ Some x))
in_either [] ys i x at = inr (i, (let z : i ≡ 0 + i = omega arith in z), at)
in_either (y ∷ xs) ys zero x at = inl at
in_either (y ∷ xs) ys (suc i) x at = elim (in_either xs ys i x at) [
  | inl l ↦ inl l
  | inr r ↦ inr (r.0, (let e = r.1 in let z : suc i ≡ length (y ∷ xs) + r.0 = omega (arith, e) in z), r.2)
]

-- who passes stands in the beginning, where none does later
pub within_front : {X : Type 0} (p : X → Bool) (seen later whole : List X) (n : ℕ) (x : X) → seen ++ later ≡ whole → list_any p later ≡ false → slice_get whole n ≡ Some x → p x ≡ true
    → (n < length seen) × (slice_get seen n ≡ Some x)
within_front p seen later whole n x parts none at passes = elim (le_or_above (length seen) n) [
  | inr less ↦ (less, slice_get-front seen later n x less (ap (λ xs. slice_get xs n) parts ∙ at))
  | inl le ↦
      let there = later_get seen later n x le (ap (λ xs. slice_get xs n) parts ∙ at) in
      absurd (let z : true ≡ false = sym (any_of p later (n - length seen) x there passes) ∙ none in cc)
]

pub any_more : {X : Type 0} (p : X → Bool) (xs ys : List X) → list_any p xs ≡ true → list_any p (xs ++ ys) ≡ true
any_more p xs ys is = list_any-append p xs ys ∙ ap (λ b. b || list_any p ys) is

pub take_append : {X : Type 0} (n : ℕ) (xs ys : List X) → take n (xs ++ ys) ≡ take n xs ++ take (n - length xs) ys
take_append zero xs ys = ap (λ k. take k ys) (let z : 0 ≡ 0 - length xs = omega arith in z)
take_append (suc n) [] ys = ap (λ k. take k ys) (let z : suc n ≡ suc n - 0 = omega arith in z)
take_append (suc n) (x ∷ xs) ys = ap (λ zs. x ∷ zs) (take_append n xs ys ∙ ap (λ k. take n xs ++ take k ys) (let z : n - length xs ≡ suc n - suc (length xs) = omega arith in z))

pub drop_append : {X : Type 0} (n : ℕ) (xs ys : List X) → drop n (xs ++ ys) ≡ drop n xs ++ drop (n - length xs) ys
drop_append zero xs ys = ap (λ k. xs ++ drop k ys) (let z : 0 ≡ 0 - length xs = omega arith in z)
drop_append (suc n) [] ys = ap (λ k. drop k ys) (let z : suc n ≡ suc n - 0 = omega arith in z)
drop_append (suc n) (x ∷ xs) ys = drop_append n xs ys ∙ ap (λ k. drop n xs ++ drop k ys) (let z : n - length xs ≡ suc n - suc (length xs) = omega arith in z)

-- a part of a list
pub slice_get-take : {X : Type 0} (k j : ℕ) (xs : List X) (x : X) → slice_get (take k xs) j ≡ Some x → slice_get xs j ≡ Some x
slice_get-take zero j xs x e = absurd (cc)
slice_get-take (suc k) j [] x e = absurd (cc)
slice_get-take (suc k) zero (y ∷ xs) x e = e
slice_get-take (suc k) (suc j) (y ∷ xs) x e = slice_get-take k j xs x e

pub take_one_more : {X : Type 0} (xs : List X) (i : ℕ) (x : X) → slice_get xs i ≡ Some x → take (suc i) xs ≡ take i xs ++ x ∷ []
take_one_more [] i x e = absurd (cc)
take_one_more (y ∷ xs) zero x e = ap (λ y. y ∷ []) (some_is y x e)
take_one_more (y ∷ xs) (suc i) x e = ap (λ ys. y ∷ ys) (take_one_more xs i x e)

pub drop_known : {X : Type 0} (xs : List X) (i : ℕ) (x : X) → i < length xs → x ≡ get_or xs i x → drop i xs ≡ x ∷ drop (i + 1) xs
drop_known xs i x within is =
    let e : suc i ≡ i + 1 = omega arith in drop-cons xs i x within ∙ ap (λ y. y ∷ drop (suc i) xs) (sym is) ∙ ap (λ k. x ∷ drop k xs) e

pub parted : {X : Type 0} (xs : List X) (i : ℕ) (x : X) → slice_get xs i ≡ Some x → xs ≡ take i xs ++ x ∷ drop (suc i) xs
parted [] i x at = absurd (cc)
parted (y ∷ xs) zero x at = ap (λ y. y ∷ xs) (some_is y x at)
parted (y ∷ xs) (suc i) x at = ap (λ ys. y ∷ ys) (parted xs i x at)

-- one piece more of what is handed on piece by piece
pub one_piece_more : (before mid after text : List ℕ) (at n : ℕ) → mid ≡ before ++ take at text → after ≡ mid ++ take n (take (length text - at) (drop at text)) → after ≡ before ++ take (at + n) text
one_piece_more before mid after text at n is more =
    more ∙ ap (λ (l : List ℕ). mid ++ take n l) (take_rest text at) ∙ ap (λ (l : List ℕ). l ++ take n (drop at text)) is ∙ append_assoc before (take at text) (take n (drop at text)) ∙ ap (λ (l : List ℕ). before ++ l) (sym (take-add at n text))

pub set_here : {X : Type 0} (xs : List X) (i : ℕ) (x : X) → i < length xs → slice_get (slice_set xs i x) i ≡ Some x
set_here [] i x within = absurd (omega arith)
set_here (y ∷ xs) zero x within = refl
set_here (y ∷ xs) (suc i) x within = set_here xs i x (omega arith)

-- mapped, filtered and paired elements
pub mapped : {X Y : Type 0} (f : X → Y) (xs : List X) (i : ℕ) (y : Y) → slice_get (map f xs) i ≡ Some y → (x : X) × (slice_get xs i ≡ Some x) × (f x ≡ y)
mapped f [] i y at = absurd (cc)
mapped f (x ∷ xs) zero y at = (x, refl, some_is (f x) y at)
mapped f (x ∷ xs) (suc i) y at = mapped f xs i y at

pub filter_mapped : {X Y : Type 0} (g : X → Option Y) (xs : List X) (k : ℕ) (y : Y) → slice_get (filter_map g xs) k ≡ Some y → (i : ℕ) × (x : X) × (slice_get xs i ≡ Some x) × (g x ≡ Some y)
filter_mapped g [] k y e = absurd (cc)
filter_mapped {X = X} {Y = Y} g (x ∷ xs) k y e = at_head (λ k e. filter_mapped g xs k y e) (g x) refl k e
  where
    at_head : ((k : ℕ) → slice_get (filter_map g xs) k ≡ Some y → (i : ℕ) × (x : X) × (slice_get xs i ≡ Some x) × (g x ≡ Some y))
        → (o : Option Y) → g x ≡ o → (k : ℕ) → slice_get (cons_option o (filter_map g xs)) k ≡ Some y → (i : ℕ) × (z : X) × (slice_get (x ∷ xs) i ≡ Some z) × (g z ≡ Some y)
    at_head later None t k e = let (i, z, at, is) = later k e in (suc i, z, at, is)
    at_head later (Some w) t zero e = (0, x, refl, t ∙ e)
    at_head later (Some w) t (suc k) e = let (i, z, at, is) = later k e in (suc i, z, at, is)

pub mapped_fewer : {X Y : Type 0} (g : X → Option Y) (xs : List X) → length (filter_map g xs) ≤ length xs
mapped_fewer g [] = omega arith
mapped_fewer {Y = Y} g (x ∷ xs) = at_head (g x) (mapped_fewer g xs)
  where
    at_head : (o : Option Y) → length (filter_map g xs) ≤ length xs → length (cons_option o (filter_map g xs)) ≤ length (x ∷ xs)
    at_head (Some y) l = omega (arith, l)
    at_head None l = omega (arith, l)

pub filter_agrees : {X : Type 0} (f g : X → Bool) (xs : List X) → ((i : ℕ) (x : X) → slice_get xs i ≡ Some x → f x ≡ g x) → filter f xs ≡ filter g xs
filter_agrees f g [] agree = refl
filter_agrees f g (x ∷ xs) agree =
    ap (λ (b : Bool). cond b (x ∷ filter f xs) (filter f xs)) (agree 0 x refl) ∙ ap (λ l. cond (g x) (x ∷ l) l) (filter_agrees f g xs (λ i y at. agree (suc i) y at))

pub zip_at : {X Y : Type 0} (xs : List X) (ys : List Y) (i : ℕ) (x : X) (y : Y) → slice_get xs i ≡ Some x → slice_get ys i ≡ Some y → slice_get (zip xs ys) i ≡ Some (x, y)
zip_at [] ys i x y a b = absurd (cc)
zip_at (u ∷ xs) [] i x y a b = absurd (cc)
zip_at (u ∷ xs) (v ∷ ys) zero x y a b = cc
zip_at (u ∷ xs) (v ∷ ys) (suc i) x y a b = zip_at xs ys i x y a b

-- one number more, mapped behind what was mapped
pub range_more : {X : Type 0} (f : ℕ → X) (a n j : ℕ) (front old new : List X) (x : X) → a + n ≡ j → old ≡ front ++ map f (range_with_len a n) → new ≡ old ++ x ∷ [] → x ≡ f j
    → new ≡ front ++ map f (range_with_len a (n + 1))
range_more f a n j front old new x at before pushed is =
    pushed ∙ ap (λ (xs : List _). xs ++ x ∷ []) before ∙ append_assoc front (map f (range_with_len a n)) (x ∷ []) ∙ ap (λ y. front ++ (map f (range_with_len a n) ++ y ∷ [])) is
    ∙ ap (λ xs. front ++ xs) (sym (map-range_with_len_more f a n j at))

-- what is found, and what a list contains
pub found_at : {X : Type 0} (q : X → Bool) (xs : List X) (x : X) → find q xs ≡ Some x → (i : ℕ) × (slice_get xs i ≡ Some x)
found_at q [] x e = absurd (cc)
found_at {X} q (y ∷ ys) x e = by_test (q y) e (found_at q ys x)
  where
    by_test : (b : Bool) → (if b then Some y else find q ys) ≡ Some x → (find q ys ≡ Some x → (i : ℕ) × (slice_get ys i ≡ Some x)) → (i : ℕ) × (slice_get (y ∷ ys) i ≡ Some x)
    by_test true e rest = (0, e)
    by_test false e rest = let (i, at) = rest e in (suc i, at)

pub position_at : (n : ℕ) (xs : List ℕ) (p m : ℕ) → position_from (λ file. file == p) n xs ≡ Some m → (j : ℕ) × (m ≡ n + j) × (slice_get xs j ≡ Some p)
position_at n [] p m is = absurd (cc)
position_at n (x ∷ xs) p m is = by_test (x == p) refl (position_at (n + 1) xs p m) is
  where
    by_test : (t : Bool) → (x == p) ≡ t → (position_from (λ file. file == p) (n + 1) xs ≡ Some m → (j : ℕ) × (m ≡ n + 1 + j) × (slice_get xs j ≡ Some p))
        → cond t (Some n) (position_from (λ file. file == p) (n + 1) xs) ≡ Some m → (j : ℕ) × (m ≡ n + j) × (slice_get (x ∷ xs) j ≡ Some p)
    by_test true same more is = (0, (let z = some_is n m is in omega (arith, z)), ap (λ (q : ℕ). Some q) (same_numbers x p same))
    by_test false apart more is = let r = more is in (suc r.0, (let z = r.1 in omega (arith, z)), r.2)

pub Contains-place : {X : Type 0} (xs : List X) (x : X) → Contains xs x → (k : ℕ) × (slice_get xs k ≡ Some x)
Contains-place [] x (k, within, is) = absurd (omega (arith, within))
Contains-place (y ∷ xs) x (zero, within, is) = (0, ap (λ z. Some z) is)
Contains-place (y ∷ xs) x (suc k, within, is) = let (j, at) = Contains-place xs x (k, omega (arith, within), is) in (suc j, at)

pub Contains-at : {X : Type 0} (xs : List X) (k : ℕ) (x : X) → slice_get xs k ≡ Some x → Contains xs x
Contains-at xs k x at = (k, slice_get_within xs k x at, get_or_from_slice_get xs k x x at)

pub Contains-behind : {X : Type 0} (y : X) (xs : List X) (x : X) → Contains xs x → Contains (y ∷ xs) x
Contains-behind y xs x (k, within, is) = (suc k, omega (arith, within), is)

pub contains_none : {X : Type 0} (x : X) → Contains [] x → ⊥
contains_none x (k, within, is) = absurd (omega (arith, within))

pub each_contained : {X : Type 0} (P : X → Type 0) (xs : List X) → AllByRecursion P xs → (x : X) → Contains xs x → P x
each_contained P [] all y (k, within, is) = absurd (omega (arith, within))
each_contained P (x ∷ xs) all y (zero, within, is) = subst P is all.0
each_contained P (x ∷ xs) all y (suc k, within, is) = each_contained P xs all.1 y (k, omega (arith, within), is)
