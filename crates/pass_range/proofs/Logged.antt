-- What the tests of a well logged list say of its files.
use Rattle.std.proofs.Common.{◌≡◌, ◌∙◌, ◌+◌, ℕ, Bool, true, false, cond, List, [], ◌∷◌, ◌++◌, length, take, drop, sym, ap, subst, arith, append_assoc}
use Rattle.std.specs.Prelude.{zero, suc, Some, None, slice_get}
use Rattle.std.specs.List.{position_from}
use Rattle.std.proofs.lemmas.List.{take-append-drop, append-nil}
use Rattle.pass_entry.specs.declared.record.Record.{Record}
use Rattle.pass_entry.proofs.Variants.{no_first}
use Rattle.pass_plain.specs.WellLogged.{flaw_of, first_flaw_after, IsWellLogged}
use Rattle.pass_plain.proofs.Flaws.{logged_before}

-- each record passes the tests behind those before it
pub unflawed_at : (before rest : List Record) → first_flaw_after before rest ≡ None → (i : ℕ) (r : Record) → slice_get rest i ≡ Some r → flaw_of (before ++ take i rest) r ≡ None
unflawed_at before [] none i r at = absurd (cc)
unflawed_at before (x ∷ rest) none zero r at =
    let here : x ≡ r = cc in
    ap (λ (l : List Record). flaw_of l r) (append-nil before) ∙ ap (flaw_of before) (sym here) ∙ (no_first (λ reason. (length before, reason)) (flaw_of before x) (first_flaw_after (before ++ x ∷ []) rest) none).0
unflawed_at before (x ∷ rest) none (suc i) r at =
    ap (λ (l : List Record). flaw_of l r) (sym (append_assoc before (x ∷ []) (take i rest)))
    ∙ unflawed_at (before ++ x ∷ []) rest (no_first (λ reason. (length before, reason)) (flaw_of before x) (first_flaw_after (before ++ x ∷ []) rest) none).1 i r at

-- what each next record keeps holds of a well logged list
pub logged_from : (P : List Record → Type 0) → ((list : List Record) (r : Record) → P list → flaw_of list r ≡ None → P (list ++ r ∷ []))
    → (before rest : List Record) → P before → first_flaw_after before rest ≡ None → P (before ++ rest)
logged_from P more before [] holds none = subst P (sym (append-nil before)) holds
logged_from P more before (r ∷ rest) holds none =
    let parts = no_first (λ reason. (length before, reason)) (flaw_of before r) (first_flaw_after (before ++ r ∷ []) rest) none in
    subst P (append_assoc before (r ∷ []) rest) (logged_from P more (before ++ r ∷ []) rest (more before r holds parts.0) parts.1)

pub logged_induction : (P : List Record → Type 0) → P [] → ((list : List Record) (r : Record) → P list → flaw_of list r ≡ None → P (list ++ r ∷ [])) → (list : List Record) → IsWellLogged list → P list
logged_induction P first more list logged = logged_from P more [] list first logged

-- the place of a test in a longer list
pub position_left : (test : ℕ → Bool) (n : ℕ) (xs ys : List ℕ) (i : ℕ) → position_from test n xs ≡ Some i → position_from test n (xs ++ ys) ≡ Some i
position_left test n [] ys i at = absurd (cc)
position_left test n (x ∷ xs) ys i at = by_test (test x) (position_left test (n + 1) xs ys i) at
  where
    by_test : (t : Bool) → (position_from test (n + 1) xs ≡ Some i → position_from test (n + 1) (xs ++ ys) ≡ Some i)
        → cond t (Some n) (position_from test (n + 1) xs) ≡ Some i → cond t (Some n) (position_from test (n + 1) (xs ++ ys)) ≡ Some i
    by_test true more at = at
    by_test false more at = more at

pub position_right : (test : ℕ → Bool) (n : ℕ) (xs ys : List ℕ) → position_from test n xs ≡ None → position_from test n (xs ++ ys) ≡ position_from test (n + length xs) ys
position_right test n [] ys none = ap (λ (k : ℕ). position_from test k ys) (let z : n ≡ n + 0 = omega arith in z)
position_right test n (x ∷ xs) ys none = by_test (test x) (position_right test (n + 1) xs ys) none ∙ ap (λ (k : ℕ). position_from test k ys) (let z : n + 1 + length xs ≡ n + length (x ∷ xs) = omega arith in z)
  where
    by_test : (t : Bool) → (position_from test (n + 1) xs ≡ None → position_from test (n + 1) (xs ++ ys) ≡ position_from test (n + 1 + length xs) ys)
        → cond t (Some n) (position_from test (n + 1) xs) ≡ None → cond t (Some n) (position_from test (n + 1) (xs ++ ys)) ≡ position_from test (n + 1 + length xs) ys
    by_test true more none = absurd (cc)
    by_test false more none = more none

pub logged_take : (list : List Record) → IsWellLogged list → (i : ℕ) → IsWellLogged (take i list)
logged_take list logged i = logged_before [] (take i list) (drop i list) (subst (λ (l : List Record). first_flaw_after [] l ≡ None) (sym (take-append-drop i list)) logged)
