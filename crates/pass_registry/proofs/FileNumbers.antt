-- What becomes of a file's number.
use Rattle.std.proofs.Common.{◌≡◌, ℕ, suc, ◌+◌, ◌<◌, Bool, true, false, cond, List, [], ◌∷◌, ◌++◌, refl, ap, sym, ◌∙◌, arith}
use Rattle.std.specs.Prelude.{Option, Some, None, option_map, nat_eq}
use Rattle.std.proofs.lemmas.List.Sums.{sum_by-append}
use Rattle.pass_entry.specs.declared.objects.Kind.{Kind}
use Rattle.pass_entry.specs.declared.objects.Kind.TheVariants as kind
use Rattle.pass_plain.specs.Registries.{same_kind}
use Rattle.pass_plain.proofs.Lists.{same_numbers, same_itself, some_is}
use Rattle.pass_registry.specs.Files.{number_of}
use Rattle.pass_registry.specs.FileLaws.{KeepLaw, NextLaw, OwnLaw, BelowLaw}
use Rattle.pass_registry.specs.Tables.{count_in}
use Rattle.pass_registry.proofs.TableLemmas.{number-cons}

count_file : (q : ℕ) (objects : List (ℕ × Kind)) → count_in kind.File ((q, kind.File) ∷ objects) ≡ 1 + count_in kind.File objects
count_file q objects = sum_by-append (λ (o : ℕ × Kind). cond (same_kind o.1 kind.File) 1 0) ((q, kind.File) ∷ []) objects

later : (o p : Option ℕ) (n : ℕ) → ((m : ℕ) → o ≡ Some m → p ≡ Some m) → option_map suc o ≡ Some n → option_map suc p ≡ Some n
later None p n keeps e = absurd (cc)
later (Some m) p n keeps e = ap (option_map suc) (keeps m refl) ∙ e

pub keep_law : KeepLaw
keep_law [] more file n has = absurd (cc)
keep_law ((q, kind.File) ∷ objects) more file n has = by_test (nat_eq file q) refl (keep_law objects more file)
  where
    by_test : (b : Bool) → nat_eq file q ≡ b → ((m : ℕ) → number_of objects file ≡ Some m → number_of (objects ++ more) file ≡ Some m)
        → number_of ((q, kind.File) ∷ (objects ++ more)) file ≡ Some n
    by_test true same keeps = number-cons file q (objects ++ more) true same ∙ sym (number-cons file q objects true same) ∙ has
    by_test false other keeps =
        number-cons file q (objects ++ more) false other
        ∙ later (number_of objects file) (number_of (objects ++ more) file) n keeps (sym (number-cons file q objects false other) ∙ has)
keep_law ((q, kind.Process) ∷ objects) more file n has = keep_law objects more file n has
keep_law ((q, kind.Pipe) ∷ objects) more file n has = keep_law objects more file n has
keep_law ((q, kind.App) ∷ objects) more file n has = keep_law objects more file n has

none_later : (o : Option ℕ) → option_map suc o ≡ None → o ≡ None
none_later None e = refl
none_later (Some m) e = absurd (cc)

pub next_law : NextLaw
next_law [] file none = number-cons file file [] true (same_itself file)
next_law ((q, kind.File) ∷ objects) file none = by_test (nat_eq file q) refl (next_law objects file)
  where
    by_test : (b : Bool) → nat_eq file q ≡ b → (number_of objects file ≡ None → number_of (objects ++ (file, kind.File) ∷ []) file ≡ Some (count_in kind.File objects))
        → number_of ((q, kind.File) ∷ (objects ++ (file, kind.File) ∷ [])) file ≡ Some (count_in kind.File ((q, kind.File) ∷ objects))
    by_test true same next = absurd (let e = sym (number-cons file q objects true same) ∙ none in cc)
    by_test false other next =
        number-cons file q (objects ++ (file, kind.File) ∷ []) false other
        ∙ ap (option_map suc) (next (none_later (number_of objects file) (sym (number-cons file q objects false other) ∙ none)))
        ∙ ap (λ (n : ℕ). Some n) (let c = count_file q objects in let e : suc (count_in kind.File objects) ≡ count_in kind.File ((q, kind.File) ∷ objects) = omega (arith, c) in e)
next_law ((q, kind.Process) ∷ objects) file none = next_law objects file none
next_law ((q, kind.Pipe) ∷ objects) file none = next_law objects file none
next_law ((q, kind.App) ∷ objects) file none = next_law objects file none

both_later : (o p : Option ℕ) (n a b : ℕ) → ((m : ℕ) → o ≡ Some m → p ≡ Some m → a ≡ b) → option_map suc o ≡ Some n → option_map suc p ≡ Some n → a ≡ b
both_later None p n a b same e f = absurd (cc)
both_later (Some m) None n a b same e f = absurd (cc)
both_later (Some m) (Some k) n a b same e f =
    let is : m ≡ k = (let x = some_is (suc m) n e in let y = some_is (suc k) n f in omega (arith, x, y)) in
    same m refl (ap (λ (v : ℕ). Some v) (sym is))

first_only : (o : Option ℕ) (n : ℕ) {P : Type 0} → ◌≡◌ {A = Option ℕ} (Some 0) (Some n) → option_map suc o ≡ Some n → P
first_only None n e f = absurd (cc)
first_only (Some m) n e f = absurd (let x = some_is 0 n e in let y = some_is (suc m) n f in omega (arith, x, y))

pub own_law : OwnLaw
own_law [] a b n has_a has_b = absurd (cc)
own_law ((q, kind.File) ∷ objects) a b n has_a has_b = by_tests (nat_eq a q) (nat_eq b q) refl refl (own_law objects a b)
  where
    by_tests : (x y : Bool) → nat_eq a q ≡ x → nat_eq b q ≡ y → ((m : ℕ) → number_of objects a ≡ Some m → number_of objects b ≡ Some m → a ≡ b) → a ≡ b
    by_tests true true first second same = same_numbers a q first ∙ sym (same_numbers b q second)
    by_tests true false first second same =
        first_only (number_of objects b) n (sym (number-cons a q objects true first) ∙ has_a) (sym (number-cons b q objects false second) ∙ has_b)
    by_tests false true first second same =
        first_only (number_of objects a) n (sym (number-cons b q objects true second) ∙ has_b) (sym (number-cons a q objects false first) ∙ has_a)
    by_tests false false first second same =
        both_later (number_of objects a) (number_of objects b) n a b same (sym (number-cons a q objects false first) ∙ has_a) (sym (number-cons b q objects false second) ∙ has_b)
own_law ((q, kind.Process) ∷ objects) a b n has_a has_b = own_law objects a b n has_a has_b
own_law ((q, kind.Pipe) ∷ objects) a b n has_a has_b = own_law objects a b n has_a has_b
own_law ((q, kind.App) ∷ objects) a b n has_a has_b = own_law objects a b n has_a has_b

below_later : (o : Option ℕ) (n l : ℕ) → ((m : ℕ) → o ≡ Some m → m < l) → option_map suc o ≡ Some n → n < 1 + l
below_later None n l below e = absurd (cc)
below_later (Some m) n l below e = let x = some_is (suc m) n e in let y = below m refl in omega (arith, x, y)

pub below_law : BelowLaw
below_law [] file n has = absurd (cc)
below_law ((q, kind.File) ∷ objects) file n has =
    let more = count_file q objects in
    let few = by_test (nat_eq file q) refl (below_law objects file) in
    omega (arith, more, few)
  where
    by_test : (b : Bool) → nat_eq file q ≡ b → ((m : ℕ) → number_of objects file ≡ Some m → m < count_in kind.File objects) → n < 1 + count_in kind.File objects
    by_test true same below = let x = some_is 0 n (sym (number-cons file q objects true same) ∙ has) in omega (arith, x)
    by_test false other below = below_later (number_of objects file) n (count_in kind.File objects) below (sym (number-cons file q objects false other) ∙ has)
below_law ((q, kind.Process) ∷ objects) file n has = below_law objects file n has
below_law ((q, kind.Pipe) ∷ objects) file n has = below_law objects file n has
below_law ((q, kind.App) ∷ objects) file n has = below_law objects file n has
