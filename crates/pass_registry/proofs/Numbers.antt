-- Objects with numbers of their own, one after another.
use Rattle.std.proofs.Common.{◌≡◌, ℕ, zero, suc, ◌+◌, ◌<◌, ◌≤◌, Bool, true, false, cond, List, [], ◌∷◌, ◌++◌, length, get_or, take, map, refl, ap, sym, ◌∙◌, arith, ◌⊎◌, inl, inr}
use Rattle.std.specs.Prelude.{Some, slice_get, option_map, nat_le, ◌==◌}
use Rattle.std.specs.List.{list_any}
use Rattle.std.proofs.lemmas.Bool.{lt-leb}
use Rattle.std.proofs.lemmas.List.{take-map, length-map, length-take-le}
use Rattle.std.proofs.lemmas.List.Sums.{sum_by-append, count_by-le-length}
use Rattle.std.proofs.lemmas.Option.{slice_get_read, slice_get-map}
use Rattle.std.proofs.Math.Seq.{take-append-add}
use Rattle.pass_entry.specs.declared.objects.Kind.{Kind}
use Rattle.pass_entry.specs.declared.objects.Kind.TheVariants as kind
use Rattle.pass_entry.specs.Limits.{kind_limit}
use Rattle.pass_entry.proofs.Places.{slice_get-take}
use Rattle.pass_plain.specs.declared.start.StartFile.{StartFile}
use Rattle.pass_plain.specs.Registries.{same_kind}
use Rattle.pass_plain.proofs.Appends.{slice_get-append}
use Rattle.pass_plain.proofs.Lists.{any_at, same_numbers, some_is, within_take}
use Rattle.pass_registry.specs.Openings.{IsSingle, file_object}
use Rattle.pass_registry.specs.Tables.{count_in}

slice_get-skip : {X : Type 0} (xs ys : List X) (i : ℕ) → slice_get (xs ++ ys) (length xs + i) ≡ slice_get ys i
slice_get-skip [] ys i = ap (slice_get ys) (let e : 0 + i ≡ i = omega arith in e)
slice_get-skip (x ∷ xs) ys i = ap (slice_get (x ∷ (xs ++ ys))) (let e : length (x ∷ xs) + i ≡ suc (length xs + i) = omega arith in e) ∙ slice_get-skip xs ys i

pub single_front : (xs ys : List (ℕ × Kind)) → IsSingle (xs ++ ys) → IsSingle xs
single_front xs ys single i j a b at_i at_j same = single i j a b (slice_get-append xs ys i a at_i) (slice_get-append xs ys j b at_j) same

-- no object before the place has the number of that at the place
single_at : (xs : List (ℕ × Kind)) (n : ℕ) (o : ℕ × Kind) → IsSingle xs → slice_get xs n ≡ Some o → list_any (λ x. x.0 == o.0) (take n xs) ≡ false
single_at xs n o single at = by_test (list_any (λ x. x.0 == o.0) (take n xs)) refl
  where
    by_test : (b : Bool) → list_any (λ x. x.0 == o.0) (take n xs) ≡ b → b ≡ false
    by_test false e = refl
    by_test true e =
        let (i, x, found, same) = any_at (λ (x : ℕ × Kind). x.0 == o.0) (take n xs) e in
        let less : i < n = within_take n i xs x found in
        let here : i ≡ n = single i n x o (slice_get-take n i xs x found) at (same_numbers x.0 o.0 same) in
        absurd (omega (arith, less, here))

module _ {X : Type 0} (g : X → ℕ × Kind) (before : List (ℕ × Kind)) (items : List X) (i : ℕ) where
  -- the next of the items has another number than those before it
  pub single_next : (x : X) → IsSingle (before ++ map g items) → i < length items → x ≡ get_or items i x
      → list_any (λ o. o.0 == (g x).0) (before ++ map g (take i items)) ≡ false
  single_next x single within is =
      let there : slice_get (before ++ map g items) (length before + i) ≡ Some (g x) =
      slice_get-skip before (map g items) i ∙ slice_get-map g items i ∙ ap (option_map g) (slice_get_read items (length items) i x refl within is) in
      ap (list_any (λ (o : ℕ × Kind). o.0 == (g x).0)) (sym (take-append-add before (map g items) i ∙ ap (λ xs. before ++ xs) (take-map g i items)))
      ∙ single_at (before ++ map g items) (length before + i) (g x) single there

  -- there are fewer than may be while one is to come
  pub few_next : (k : Kind) → count_in k before + length items ≤ kind_limit → i < length items → nat_le kind_limit (count_in k (before ++ map g (take i items))) ≡ false
  few_next k few within =
      let all = sum_by-append (λ (o : ℕ × Kind). cond (same_kind o.1 k) 1 0) before (map g (take i items)) in
      let most = count_by-le-length (λ (o : ℕ × Kind). same_kind o.1 k) (map g (take i items)) in
      let len = length-map (take i items) g in
      let taken = length-take-le i items (omega (arith, within)) in
      lt-leb kind_limit (count_in k (before ++ map g (take i items))) (omega (arith, all, most, len, taken, few, within))

-- a number above those of all objects is none of theirs
pub none_above : (objects : List (ℕ × Kind)) (n p : ℕ) → ((i : ℕ) (o : ℕ × Kind) → slice_get objects i ≡ Some o → o.0 ≤ n) → n < p
    → list_any (λ o. o.0 == p) objects ≡ false
none_above objects n p most above = by_test (list_any (λ o. o.0 == p) objects) refl
  where
    by_test : (b : Bool) → list_any (λ o. o.0 == p) objects ≡ b → b ≡ false
    by_test false e = refl
    by_test true e =
        let (i, o, at, same) = any_at (λ (o : ℕ × Kind). o.0 == p) objects e in
        let low : o.0 ≤ n = most i o at in
        let here : o.0 ≡ p = same_numbers o.0 p same in
        absurd (omega (arith, low, here, above))

-- what stands in a list with one more element is in the list, or is that element
pushed_cases : {X : Type 0} (xs : List X) (x : X) (i : ℕ) (y : X) → slice_get (xs ++ x ∷ []) i ≡ Some y → (slice_get xs i ≡ Some y) ⊎ (y ≡ x)
pushed_cases [] x zero y at = inr (sym (some_is x y at))
pushed_cases [] x (suc i) y at = absurd (cc)
pushed_cases (z ∷ xs) x zero y at = inl at
pushed_cases (z ∷ xs) x (suc i) y at = pushed_cases xs x i y at

pub most_push : (objects : List (ℕ × Kind)) (o : ℕ × Kind) (n m : ℕ) → ((i : ℕ) (x : ℕ × Kind) → slice_get objects i ≡ Some x → x.0 ≤ n) → n ≤ m → o.0 ≤ m
    → (i : ℕ) (x : ℕ × Kind) → slice_get (objects ++ o ∷ []) i ≡ Some x → x.0 ≤ m
most_push objects o n m most more new i x at =
    elim (pushed_cases objects o i x at) [
      | inl old ↦ let low : x.0 ≤ n = most i x old in omega (arith, low, more)
      | inr same ↦ let is = ap (λ (y : ℕ × Kind). y.0) same in omega (arith, is, new)
    ]

-- files alone have no app object among them
pub no_apps : (files : List StartFile) → count_in kind.App (map file_object files) ≡ 0
no_apps [] = refl
no_apps (f ∷ files) = no_apps files
