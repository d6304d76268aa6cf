-- What the tests of a well logged list, and the ranges of its records, say of its objects.
use Rattle.std.proofs.Common.{◌≡◌, ◌∙◌, ◌==◌, ◌^◌, ◌<◌, ◌≤◌, ℕ, Bool, true, false, List, [], ◌∷◌, ◌++◌, length, refl, sym, ap, subst, arith, append_assoc}
use Rattle.std.specs.Prelude.{None, nat_le, nat_lt, if◌then◌else◌}
use Rattle.std.specs.List.{All}
use Rattle.std.proofs.lemmas.List.Sums.{fold-append}
use Rattle.std.proofs.lemmas.List.Elements.{All-head, All-tail}
use Rattle.std.proofs.lemmas.List.{append-nil}
use Rattle.pass_entry.specs.declared.record.Record.{Record}
use Rattle.pass_entry.specs.declared.record.Record.TheVariants as log
use Rattle.pass_entry.specs.Ranges.{IsInRange, is_number, is_name_or_none}
use Rattle.pass_entry.proofs.Variants.{no_first}
use Rattle.pass_plain.specs.WellLogged.{kind_look, kind_of, version_look, current_of, size_look, size_of, name_look, last_name_of, ceiling_look, ceiling_of, flaw_of, first_flaw_after, IsWellLogged}
use Rattle.pass_plain.proofs.Lists.{true_left, true_right, below_is, at_most}

-- what each next record within its ranges keeps holds of a well logged list of such records
kept_from : (P : List Record → Type 0) → ((list : List Record) (r : Record) → P list → flaw_of list r ≡ None → IsInRange r → P (list ++ r ∷ []))
    → (before rest : List Record) → P before → first_flaw_after before rest ≡ None → All IsInRange rest → P (before ++ rest)
kept_from P more before [] holds none ranges = subst P (sym (append-nil before)) holds
kept_from P more before (r ∷ rest) holds none ranges =
    let parts = no_first (λ reason. (length before, reason)) (flaw_of before r) (first_flaw_after (before ++ r ∷ []) rest) none in
    subst P (append_assoc before (r ∷ []) rest)
    (kept_from P more (before ++ r ∷ []) rest (more before r holds parts.0 (All-head IsInRange r rest ranges)) parts.1 (All-tail IsInRange r rest ranges))

pub kept_induction : (P : List Record → Type 0) → P [] → ((list : List Record) (r : Record) → P list → flaw_of list r ≡ None → IsInRange r → P (list ++ r ∷ []))
    → (list : List Record) → IsWellLogged list → All IsInRange list → P list
kept_induction P first more list logged ranges = kept_from P more [] list first logged ranges

-- one record more
module _ (list : List Record) (r : Record) where
  pub ceiling-next : ceiling_of (list ++ r ∷ []) ≡ ceiling_look (ceiling_of list) r
  ceiling-next = fold-append ceiling_look 0 list (r ∷ [])

  pub version-next : (p : ℕ) → current_of (list ++ r ∷ []) p ≡ version_look p (current_of list p) r
  version-next p = fold-append (version_look p) 1 list (r ∷ [])

  pub size-next : (p : ℕ) → size_of (list ++ r ∷ []) p ≡ size_look p (size_of list p) r
  size-next p = fold-append (size_look p) 0 list (r ∷ [])

  pub kind-next : (p : ℕ) → kind_of (list ++ r ∷ []) p ≡ kind_look p (kind_of list p) r
  kind-next p = fold-append (kind_look p) None list (r ∷ [])

  pub name-next : (p : ℕ) → last_name_of (list ++ r ∷ []) p ≡ name_look p (last_name_of list p) r
  name-next p = fold-append (name_look p) [] list (r ∷ [])

number_low : (n : ℕ) → is_number n ≡ true → (1 ≤ n) × (n < 2 ^ 48)
number_low n h = (at_most 1 n (true_left (nat_le 1 n) (nat_lt n (2 ^ 48)) h), below_is n (2 ^ 48) (true_right (nat_le 1 n) (nat_lt n (2 ^ 48)) h))

-- versions, sizes and names are within their ranges

abbrev IsLimited : List Record → Type 0
IsLimited list = (p : ℕ) → ((1 ≤ current_of list p) × (current_of list p < 2 ^ 48)) × (size_of list p ≤ 4194304) × (is_name_or_none (last_name_of list p) ≡ true)

limited_next : (list : List Record) (r : Record) → IsLimited list → flaw_of list r ≡ None → IsInRange r → IsLimited (list ++ r ∷ [])
limited_next list (log.Version node) was passes fits = λ p. let old = was p in (
  subst (λ (n : ℕ). (1 ≤ n) × (n < 2 ^ 48)) (sym (version-next list (log.Version node) p))
      (by_test node.version (current_of list p) (node.pnode == p) (number_low node.version (true_right (is_number node.pnode) (is_number node.version) fits)) old.0),
  subst (λ (n : ℕ). n ≤ 4194304) (sym (size-next list (log.Version node) p)) old.1,
  ap is_name_or_none (name-next list (log.Version node) p) ∙ old.2,
)
  where
    by_test : (m n : ℕ) (t : Bool) → (1 ≤ m) × (m < 2 ^ 48) → (1 ≤ n) × (n < 2 ^ 48) → (1 ≤ (if t then m else n)) × ((if t then m else n) < 2 ^ 48)
    by_test m n true a b = a
    by_test m n false a b = b
limited_next list (log.Size q size) was passes fits = λ p. let old = was p in (
  subst (λ (n : ℕ). (1 ≤ n) × (n < 2 ^ 48)) (sym (version-next list (log.Size q size) p)) old.0,
  subst (λ (n : ℕ). n ≤ 4194304) (sym (size-next list (log.Size q size) p)) (by_test size (size_of list p) (q == p) (at_most size 4194304 (true_right (is_number q) (nat_le size 4194304) fits)) old.1),
  ap is_name_or_none (name-next list (log.Size q size) p) ∙ old.2,
)
  where
    by_test : (m n : ℕ) (t : Bool) → m ≤ 4194304 → n ≤ 4194304 → (if t then m else n) ≤ 4194304
    by_test m n true a b = a
    by_test m n false a b = b
limited_next list (log.Name q name) was passes fits = λ p. let old = was p in (
  subst (λ (n : ℕ). (1 ≤ n) × (n < 2 ^ 48)) (sym (version-next list (log.Name q name) p)) old.0,
  subst (λ (n : ℕ). n ≤ 4194304) (sym (size-next list (log.Name q name) p)) old.1,
  ap is_name_or_none (name-next list (log.Name q name) p) ∙ by_test name (last_name_of list p) (q == p) (true_right (is_number q) (is_name_or_none name) fits) old.2,
)
  where
    by_test : (m n : List ℕ) (t : Bool) → is_name_or_none m ≡ true → is_name_or_none n ≡ true → is_name_or_none (if t then m else n) ≡ true
    by_test m n true a b = a
    by_test m n false a b = b
limited_next list r was passes fits = λ p. let old = was p in (
  subst (λ (n : ℕ). (1 ≤ n) × (n < 2 ^ 48)) (sym (version-next list r p)) old.0,
  subst (λ (n : ℕ). n ≤ 4194304) (sym (size-next list r p)) old.1,
  ap is_name_or_none (name-next list r p) ∙ old.2,
)

pub limited : (list : List Record) → IsWellLogged list → All IsInRange list → IsLimited list
limited list logged ranges = kept_induction IsLimited (λ p. ((omega arith, omega arith), omega arith, refl)) limited_next list logged ranges
