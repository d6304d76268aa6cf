-- The names of a well logged list.
use Rattle.std.proofs.Common.{◌≡◌, ◌∙◌, ◌==◌, ◌&&◌, ◌≤◌, ℕ, Bool, true, false, not, List, [], ◌∷◌, ◌++◌, length, refl, sym, ap, subst, arith}
use Rattle.std.specs.Prelude.{Option, Some, None, is_some, nat_le, nat_lt, count_by, slice_get, bytes_eq, if◌then◌else◌}
use Rattle.std.specs.Option.{option_map_or}
use Rattle.std.specs.List.{All, list_any}
use Rattle.std.proofs.lemmas.Bool.Decides.{nat_tests}
use Rattle.std.proofs.lemmas.Slice.Eq.{bytes_eq-Decides}
use Rattle.pass_entry.specs.declared.objects.Kind.{Kind}
use Rattle.pass_entry.specs.declared.objects.Kind.TheVariants as kind
use Rattle.pass_entry.specs.declared.record.Record.{Record}
use Rattle.pass_entry.specs.declared.record.Record.TheVariants as log
use Rattle.pass_entry.specs.declared.record.FlawReason.TheVariants as flaw
use Rattle.pass_entry.specs.Ranges.{IsInRange}
use Rattle.pass_entry.proofs.Places.{slice_get-last}
use Rattle.pass_plain.specs.Registries.{same_kind, is_limited}
use Rattle.pass_plain.specs.WellLogged.{kind_of, last_name_of, names_other, has_kind, ceiling_of, is_known, is_file_of, flaw_if, flaw_of, IsWellLogged}
use Rattle.pass_plain.proofs.Appends.{slice_get-append}
use Rattle.pass_plain.proofs.Lists.{not_false, same_numbers, same_itself, any_of, both_true}
use Rattle.pass_plain.proofs.Flaws.{unflawed}
use Rattle.pass_recover.proofs.Listed.{kept_induction, kind-next, name-next}
use Rattle.pass_recover.proofs.Made.{same_kind_is}

-- a name was given by a record, to a file, and no other file has it
pub record AreNamed (list : List Record) : Type 0 where
  pub there : (p : ℕ) → 1 ≤ length (last_name_of list p) → (i : ℕ) × (name : List ℕ) × (slice_get list i ≡ Some (log.Name p name))
  pub file : (p : ℕ) → 1 ≤ length (last_name_of list p) → kind_of list p ≡ Some kind.File
  pub apart : (p q : ℕ) → 1 ≤ length (last_name_of list p) → last_name_of list p ≡ last_name_of list q → p ≡ q

-- a record after which names and kinds of named files are the same
kept : (list : List Record) (r : Record) → AreNamed list → ((p : ℕ) → last_name_of (list ++ r ∷ []) p ≡ last_name_of list p)
    → ((p : ℕ) → kind_of list p ≡ Some kind.File → kind_of (list ++ r ∷ []) p ≡ Some kind.File) → AreNamed (list ++ r ∷ [])
kept list r was names kinds =
    let named : (p : ℕ) → 1 ≤ length (last_name_of (list ++ r ∷ []) p) → 1 ≤ length (last_name_of list p) = λ p some. subst (λ (l : List ℕ). 1 ≤ length l) (names p) some in
    record {
      there = λ p some. let m = was.there p (named p some) in (m.0, m.1, slice_get-append list (r ∷ []) m.0 (log.Name p m.1) m.2);
      file = λ p some. kinds p (was.file p (named p some));
      apart = λ p q some same. was.apart p q (named p some) (sym (names p) ∙ same ∙ names q);
    }

file_kind : (o : Option Kind) → option_map_or (λ k. same_kind k kind.File) o false ≡ true → o ≡ Some kind.File
file_kind None h = absurd (cc)
file_kind (Some k) h = ap (λ (x : Kind). Some x) (same_kind_is k kind.File h)

named_next : (list : List Record) (r : Record) → AreNamed list → flaw_of list r ≡ None → IsInRange r → AreNamed (list ++ r ∷ [])
named_next list (log.Object q kd) was passes fits =
    kept list (log.Object q kd) was (λ p. name-next list (log.Object q kd) p) (λ p file. kind-next list (log.Object q kd) p ∙ by_test p (q == p) refl file)
  where
    fresh : is_known list q ≡ false
    fresh = (unflawed (is_known list q) flaw.Known (flaw_if (nat_lt (ceiling_of list) q) flaw.Ceiling (flaw_if (is_limited kd && nat_le 1024 (count_by (has_kind kd) list)) flaw.Many None)) passes).0

    clash : true ≡ false → ⊥
    clash e = absurd (cc)

    by_test : (p : ℕ) (t : Bool) → (q == p) ≡ t → kind_of list p ≡ Some kind.File → (if t then Some kd else kind_of list p) ≡ Some kind.File
    by_test p true same file = absurd (clash (sym (ap is_some file) ∙ ap (is_known list) (sym (same_numbers q p same)) ∙ fresh))
    by_test p false apart file = file
named_next list (log.Name q name) was passes fits = record {
  there = λ p some. by_there p (q == p) refl (subst (λ (l : List ℕ). 1 ≤ length l) (names p) some);
  file = λ p some. kind-next list (log.Name q name) p ∙ by_file p (q == p) refl (subst (λ (l : List ℕ). 1 ≤ length l) (names p) some);
  apart = λ p o some same. by_apart p o (q == p) (q == o) refl refl (subst (λ (l : List ℕ). 1 ≤ length l) (names p) some) (sym (names p) ∙ same ∙ names o);
}
  where
    names : (p : ℕ) → last_name_of (list ++ log.Name q name ∷ []) p ≡ (if q == p then name else last_name_of list p)
    names p = name-next list (log.Name q name) p

    tests : (is_file_of list q ≡ true) × ((nat_lt 0 (length name) && list_any (names_other list q name) list) ≡ false)
    tests =
        let one = unflawed (not (is_known list q)) flaw.Unknown (flaw_if (not (is_file_of list q)) flaw.Kind (flaw_if (nat_lt 0 (length name) && list_any (names_other list q name) list) flaw.Name None)) passes in
        let two = unflawed (not (is_file_of list q)) flaw.Kind (flaw_if (nat_lt 0 (length name) && list_any (names_other list q name) list) flaw.Name None) one.1 in
        (not_false (is_file_of list q) two.0, (unflawed (nat_lt 0 (length name) && list_any (names_other list q name) list) flaw.Name None two.1).0)

    clash : true ≡ false → ⊥
    clash e = absurd (cc)

    -- no other file has the name
    alone : (o : ℕ) → (q == o) ≡ false → 1 ≤ length name → last_name_of list o ≡ name → ⊥
    alone o other some has =
        let m = was.there o (subst (λ (l : List ℕ). 1 ≤ length l) (sym has) some) in
        let long : nat_lt 0 (length name) ≡ true = grind (arith, nat_tests, some) in
        let test : names_other list q name (log.Name o m.1) ≡ true = both_true (not (o == q)) (bytes_eq (last_name_of list o) name) (differ o other) ((bytes_eq-Decides (last_name_of list o) name).1 has) in
        let any : list_any (names_other list q name) list ≡ true = any_of (names_other list q name) list m.0 (log.Name o m.1) m.2 test in
        clash (sym (both_true (nat_lt 0 (length name)) (list_any (names_other list q name) list) long any) ∙ tests.1)
      where
        differ : (o : ℕ) → (q == o) ≡ false → not (o == q) ≡ true
        differ o h = by_test (o == q) refl
          where
            by_test : (t : Bool) → (o == q) ≡ t → not t ≡ true
            by_test true same = absurd (clash (sym (ap (λ (x : ℕ). q == x) (same_numbers o q same) ∙ same_itself q) ∙ h))
            by_test false apart = refl

    by_there : (p : ℕ) (t : Bool) → (q == p) ≡ t → 1 ≤ length (if t then name else last_name_of list p) → (i : ℕ) × (other : List ℕ) × (slice_get (list ++ log.Name q name ∷ []) i ≡ Some (log.Name p other))
    by_there p true same some = (length list, name, slice_get-last list (log.Name q name) ∙ ap (λ (x : ℕ). Some (log.Name x name)) (same_numbers q p same))
    by_there p false other some = let m = was.there p some in (m.0, m.1, slice_get-append list (log.Name q name ∷ []) m.0 (log.Name p m.1) m.2)

    by_file : (p : ℕ) (t : Bool) → (q == p) ≡ t → 1 ≤ length (if t then name else last_name_of list p) → kind_of list p ≡ Some kind.File
    by_file p true same some = ap (kind_of list) (sym (same_numbers q p same)) ∙ file_kind (kind_of list q) tests.0
    by_file p false other some = was.file p some

    by_apart : (p o : ℕ) (s t : Bool) → (q == p) ≡ s → (q == o) ≡ t → 1 ≤ length (if s then name else last_name_of list p)
        → (if s then name else last_name_of list p) ≡ (if t then name else last_name_of list o) → p ≡ o
    by_apart p o true true one two some same = sym (same_numbers q p one) ∙ same_numbers q o two
    by_apart p o true false one two some same = absurd (alone o two some (sym same))
    by_apart p o false true one two some same = absurd (alone p one (subst (λ (l : List ℕ). 1 ≤ length l) same some) same)
    by_apart p o false false one two some same = was.apart p o some same
named_next list r was passes fits = kept list r was (λ p. name-next list r p) (λ p file. kind-next list r p ∙ file)

pub are_named : (list : List Record) → IsWellLogged list → All IsInRange list → AreNamed list
are_named list logged ranges = kept_induction AreNamed
    (record { there = λ p some. absurd (omega (arith, some)); file = λ p some. absurd (omega (arith, some)); apart = λ p q some same. absurd (omega (arith, some)) }) named_next list logged ranges
