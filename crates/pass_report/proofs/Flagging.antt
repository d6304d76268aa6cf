-- The flags of a file's blocks.
use Rattle.std.proofs.Common.{◌≡◌, ◌≢◌, ◌==◌, ◌||◌, ◌+◌, ◌<◌, ℕ, Bool, true, false, List, length, take, get_or, set, refl, sym, ap, ◌∙◌, arith}
use Rattle.std.specs.List.{list_any}
use Rattle.std.proofs.lemmas.Bool.Decides.{nat_tests}
use Rattle.std.proofs.lemmas.Grind.{get_or-set_at}
use Rattle.std.proofs.lemmas.List.{get_or-set_other}
use Rattle.std.proofs.lemmas.List.Folds.{list_any_more}
use Rattle.pass_entry.proofs.Lists.{or_true, or_none, alike, different}

-- one more block is among them, or isn't the one that is asked for
more : (k : ℕ) (xs : List ℕ) (i : ℕ) → i < length xs → (t : Bool) → (get_or xs i 0 == k) ≡ t
    → list_any (λ x. x == k) (take (i + 1) xs) ≡ (list_any (λ x. x == k) (take i xs) || t)
more k xs i low t is = list_any_more (λ x. x == k) xs i 0 low ∙ ap (λ b. list_any (λ x. x == k) (take i xs) || b) is

-- the flag of a block is set where it is among one more
pub set_flag : (rows : List Bool) (xs : List ℕ) (i b k : ℕ) → i < length xs → get_or xs i 0 ≡ b → b < length rows
    → get_or rows k false ≡ list_any (λ x. x == k) (take i xs) → get_or (set rows b true) k false ≡ list_any (λ x. x == k) (take (i + 1) xs)
set_flag rows xs i b k low here within so = by_test (b == k) refl
  where
    by_test : (t : Bool) → (b == k) ≡ t → get_or (set rows b true) k false ≡ list_any (λ x. x == k) (take (i + 1) xs)
    by_test true same =
        let e : k ≡ b = grind (arith, nat_tests) in
        get_or-set_at rows b k true false e within ∙ sym (more k xs i low true (ap (λ n. n == k) here ∙ same) ∙ or_true (list_any (λ x. x == k) (take i xs)))
    by_test false apart =
        let e : k ≢ b = λ h. let t = alike b k (sym h) in absurd (cc) in
        get_or-set_other rows b k true false e ∙ so ∙ sym (more k xs i low false (ap (λ n. n == k) here ∙ apart) ∙ or_none (list_any (λ x. x == k) (take i xs)))

-- a block that isn't that one has the flag that it had
pub keep_flag : (rows : List Bool) (xs : List ℕ) (i b k : ℕ) → i < length xs → get_or xs i 0 ≡ b → b ≢ k
    → get_or rows k false ≡ list_any (λ x. x == k) (take i xs) → get_or rows k false ≡ list_any (λ x. x == k) (take (i + 1) xs)
keep_flag rows xs i b k low here ne so = so ∙ sym (more k xs i low false (ap (λ n. n == k) here ∙ different b k ne) ∙ or_none (list_any (λ x. x == k) (take i xs)))
