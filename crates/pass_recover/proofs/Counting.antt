-- Objects of a start are counted by their kinds, and found by their names.
use Rattle.std.proofs.Common.{◌≡◌, ◌∙◌, ◌+◌, ◌≤◌, ℕ, Bool, true, false, cond, List, [], ◌∷◌, ◌++◌, length, map, filter, refl, sym, ap, arith, length-append}
use Rattle.std.specs.FinMap.{find}
use Rattle.std.specs.Prelude.{zero, suc, Some, slice_get, count_by}
use Rattle.std.specs.Ordering.{nat_cmp, eq_by_cmp}
use Rattle.std.specs.Cmp.Lexicographic.{slice_cmp}
use Rattle.std.proofs.lemmas.Cmp.{nat_list_cmp_total, eq_by_cmp_equiv}
use Rattle.std.proofs.lemmas.List.Elements.{filter-append}
use Rattle.std.proofs.lemmas.List.Sums.{length-filter}
use Rattle.pass_plain.proofs.Lists.{some_is}
use Rattle.pass_plain.proofs.NameMaps.{same_texts}

-- all of those that come from a list pass
length-passes : {X Y : Type 0} (test : Y → Bool) (f : X → Y) → ((x : X) → test (f x) ≡ true) → (xs : List X) → length (filter test (map f xs)) ≡ length xs
length-passes test f passes [] = refl
length-passes {X} {Y} test f passes (x ∷ xs) =
    ap (λ (b : Bool). length (cond b (f x ∷ filter test (map f xs)) (filter test (map f xs)))) (passes x) ∙ ap suc (length-passes test f passes xs)

pub count_parts : {Y : Type 0} (test : Y → Bool) (xs ys : List Y) → count_by test (xs ++ ys) ≡ length (filter test xs) + length (filter test ys)
count_parts test xs ys = sym (length-filter test (xs ++ ys)) ∙ ap length (filter-append test xs ys) ∙ length-append (filter test xs) (filter test ys)

pub count_first : {X Y : Type 0} (test : Y → Bool) (f : X → Y) → ((x : X) → test (f x) ≡ true) → (xs : List X) (ys : List Y) → length xs ≤ count_by test (map f xs ++ ys)
count_first test f passes xs ys = omega (arith, count_parts test (map f xs) ys, length-passes test f passes xs)

pub count_second : {X Y : Type 0} (test : Y → Bool) (f : X → Y) → ((x : X) → test (f x) ≡ true) → (ys : List Y) (xs : List X) → length xs ≤ count_by test (ys ++ map f xs)
count_second test f passes ys xs = omega (arith, count_parts test ys (map f xs), length-passes test f passes xs)

-- the only object of a name is found
pub entry_found : (name : List ℕ) (object : ℕ) (entries : List (List ℕ × ℕ)) (i : ℕ) → slice_get entries i ≡ Some (name, object)
    → ((j other : ℕ) → slice_get entries j ≡ Some (name, other) → other ≡ object) → find (slice_cmp nat_cmp) name entries ≡ Some object
entry_found name object [] i at one = absurd (cc)
entry_found name object (e ∷ entries) i at one = by_test (eq_by_cmp (slice_cmp nat_cmp) name e.0) refl i at (λ j there. entry_found name object entries j there (λ k other is. one (suc k) other is))
  where
    clash : true ≡ false → ⊥
    clash e = absurd (cc)

    by_test : (t : Bool) → eq_by_cmp (slice_cmp nat_cmp) name e.0 ≡ t → (i : ℕ) → slice_get (e ∷ entries) i ≡ Some (name, object)
        → ((j : ℕ) → slice_get entries j ≡ Some (name, object) → find (slice_cmp nat_cmp) name entries ≡ Some object)
        → cond t (Some e.1) (find (slice_cmp nat_cmp) name entries) ≡ Some object
    by_test true same i at more = ap (λ (n : ℕ). Some n) (one 0 e.1 (ap (λ (k : List ℕ). Some (k, e.1)) (sym (same_texts name e.0 same))))
    by_test false other zero at more =
        absurd (clash (sym ((eq_by_cmp_equiv nat_list_cmp_total).refl name) ∙ ap (eq_by_cmp (slice_cmp nat_cmp) name) (sym (ap (λ (x : List ℕ × ℕ). x.0) (some_is e (name, object) at))) ∙ other))
    by_test false other (suc i) at more = more i at
