-- How the places of a trace's lines are linked, from the last line on.
use Rattle.std.proofs.Common.{◌≡◌, ◌≢◌, ◌≤◌, ◌+◌, ℕ, zero, suc, List, [], ◌∷◌, length, refl, ap, sym, ◌∙◌, subst, arith, ◌⊎◌, inl, inr, Bool, true, false, cond}
use Rattle.std.specs.Prelude.{Option, Some, None, option_map, slice_get, slice_set}
use Rattle.std.specs.Cmp.{nat_cmp_is}
use Rattle.std.proofs.lemmas.List.{length-map}
use Rattle.std.specs.Ordering.{nat_cmp, is_eq}
use Rattle.std.specs.declared.cmp.Ordering.TheVariants.{Equal}
use Rattle.std.specs.FinMap.{nat_cmp-IsAntisymmetric}
use Rattle.std.specs.BTreeMap.{BTreeMap, get, Updates, IsEmpty}
use Rattle.std.specs.Map.{lookup}
use Rattle.std.proofs.lemmas.Bool.{cases_lt}
use Rattle.std.proofs.lemmas.Option.{slice_get_within, slice_get-map}
use Rattle.pass_plain.specs.Traces.{Line}
use Rattle.pass_plain.proofs.Lists.{some_is, is_equal}
use Rattle.pass_trace.specs.TraceLines.{plain_line, plain_trace}
use Rattle.pass_trace.specs.declared.trace.TraceLine.{TraceLine}
use Rattle.pass_replay.specs.Lines.{IsNextLine}
use Rattle.pass_walk.specs.Tables.{NextPlace}
use Rattle.pass_entry.proofs.Places.{set_here}

pub set_other : {X : Type 0} (xs : List X) (i k : ℕ) (x : X) → k ≢ i → slice_get (slice_set xs i x) k ≡ slice_get xs k
set_other [] i k x apart = refl
set_other (y ∷ xs) zero zero x apart = absurd (apart refl)
set_other (y ∷ xs) zero (suc k) x apart = refl
set_other (y ∷ xs) (suc i) zero x apart = refl
set_other (y ∷ xs) (suc i) (suc k) x apart = set_other xs i k x (λ same. apart (ap suc same))

-- a map with a value at a key
pub get_inserted : {X : Type 0} (m n : BTreeMap ℕ X) (k q : ℕ) (w : Option X) → Updates nat_cmp m n k w
    → ((k ≡ q) × (get nat_cmp n q ≡ w)) ⊎ ((k ≢ q) × (get nat_cmp n q ≡ get nat_cmp m q))
get_inserted {X} m n k q w updates = at_test (is_eq (nat_cmp k q)) refl
  where
    same_keys : (k : ℕ) → is_eq (nat_cmp k k) ≡ true
    same_keys k = sym (ap is_eq (nat_cmp_is k k Equal refl))

    at_test : (b : Bool) → is_eq (nat_cmp k q) ≡ b → ((k ≡ q) × (get nat_cmp n q ≡ w)) ⊎ ((k ≢ q) × (get nat_cmp n q ≡ get nat_cmp m q))
    at_test true t = inl (nat_cmp-IsAntisymmetric k q (is_equal (nat_cmp k q) t), updates.0 q ∙ ap (λ b. cond b w (get nat_cmp m q)) t)
    at_test false t = inr (λ same. let z : true ≡ false = sym (same_keys k) ∙ ap (λ (q : ℕ). is_eq (nat_cmp k q)) same ∙ t in cc, updates.0 q ∙ ap (λ b. cond b w (get nat_cmp m q)) t)

pub get_none : {X : Type 0} (m : BTreeMap ℕ X) (q : ℕ) → IsEmpty m → get nat_cmp m q ≡ None
get_none m q empty = ap (λ es. lookup (λ k. is_eq (nat_cmp q k)) es) empty

module _ (trace : List Line) (place : ℕ) (m : Line) (at : slice_get trace place ≡ Some m) (firsts later : BTreeMap ℕ ℕ) (updates : Updates nat_cmp firsts later m.process (Some place))
    (nexts : List (Option ℕ)) (size : length nexts ≡ length trace) (first : (process : ℕ) → IsNextLine trace process (place + 1) (get nat_cmp firsts process)) where
  -- from one place earlier on, only the process of its line has another first line
  next_from : (process : ℕ) (o : Option ℕ) → m.process ≢ process → IsNextLine trace process (place + 1) o → IsNextLine trace process place o
  next_from process (Some there) apart (le, stands, none) = (
    omega (arith, le),
    stands,
    λ k l low high here. elim (cases_lt place k) [
      | inl above ↦ none k l (omega (arith, above)) high here
      | inr below ↦ λ same. apart (ap (λ (l : Line). l.process) (some_is m l (sym at ∙ ap (λ n. slice_get trace n) (let z : place ≡ k = omega (arith, low, below) in z) ∙ here)) ∙ same)
    ],
  )
  next_from process None apart none = λ k l low here. elim (cases_lt place k) [
    | inl above ↦ none k l (omega (arith, above)) here
    | inr below ↦ λ same. apart (ap (λ (l : Line). l.process) (some_is m l (sym at ∙ ap (λ n. slice_get trace n) (let z : place ≡ k = omega (arith, low, below) in z) ∙ here)) ∙ same)
  ]

  pub first_after : (process : ℕ) → IsNextLine trace process place (get nat_cmp later process)
  first_after process = elim (get_inserted firsts later m.process process (Some place) updates) [
    | inl same ↦ subst (λ o. IsNextLine trace process place o) (sym same.1) (omega arith, (m, at, same.0), λ k l low high here. absurd (omega (arith, low, high)))
    | inr other ↦ subst (λ o. IsNextLine trace process place o) (sym other.1) (next_from process (get nat_cmp firsts process) other.0 (first process))
  ]

  pub next_after : ((k : ℕ) (l : Line) → place + 1 ≤ k → slice_get trace k ≡ Some l → NextPlace trace nexts k l)
      → (k : ℕ) (l : Line) → place ≤ k → slice_get trace k ≡ Some l → NextPlace trace (slice_set nexts place (get nat_cmp firsts m.process)) k l
  next_after next k l low here = elim (cases_lt place k) [
    | inl above ↦
        let (o, there, is) = next k l (omega (arith, above)) here in
        (o, set_other nexts place k (get nat_cmp firsts m.process) (λ same. omega (arith, above, same)) ∙ there, is)
    | inr below ↦
        let same : k ≡ place = omega (arith, low, below) in
        let one : m ≡ l = some_is m l (sym at ∙ ap (λ n. slice_get trace n) (sym same) ∙ here) in
        let within = slice_get_within trace place m at in (
          get nat_cmp firsts m.process,
          ap (λ n. slice_get (slice_set nexts place (get nat_cmp firsts m.process)) n) same ∙ set_here nexts place (get nat_cmp firsts m.process) (omega (arith, within, size)),
          subst (λ n. IsNextLine trace l.process (n + 1) (get nat_cmp firsts m.process)) (sym same)
              (subst (λ (l : Line). IsNextLine trace l.process (place + 1) (get nat_cmp firsts m.process)) one (first m.process)),
        )
  ]

-- a line of a trace, and the line as the plain definitions see it
pub plain_at : (lines : List TraceLine) (k : ℕ) (l : TraceLine) → slice_get lines k ≡ Some l → slice_get (plain_trace lines) k ≡ Some (plain_line l)
plain_at lines k l at = slice_get-map plain_line lines k ∙ ap (λ o. option_map plain_line o) at

pub plain_length : (lines : List TraceLine) → length (plain_trace lines) ≡ length lines
plain_length lines = length-map lines plain_line
