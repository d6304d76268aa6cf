-- The table of the lines that leave calls open, from one line of a text to the next.
use Rattle.std.proofs.Common.{ℕ, ◌≡◌, ◌+◌, ◌<◌, inl, inr, Bool, true, false, cond, List, refl, ap, sym, ◌∙◌, arith}
use Rattle.std.specs.Prelude.{Some, None, Contains, map, length, get_or}
use Rattle.std.specs.Cmp.{nat_cmp_is}
use Rattle.std.specs.Ordering.{nat_cmp, is_eq}
use Rattle.std.specs.declared.cmp.Ordering.TheVariants.{Equal}
use Rattle.std.specs.FinMap.{nat_cmp-IsAntisymmetric}
use Rattle.std.specs.BTreeMap.{BTreeMap, get, IsEmpty, Updates}
use Rattle.std.specs.Map.{lookup}
use Rattle.std.proofs.lemmas.Bool.{cases_lt}
use Rattle.pass_entry.proofs.Lists.{is_equal}
use Rattle.std.proofs.lemmas.List.{get_or-map, length-map}
use Rattle.std.proofs.lemmas.Option.{same_Some as some_is}
use Rattle.pass_strace.specs.Calls.{IsLastOpen, is_left_open, line_at, process_of, said_of}
use Rattle.pass_observed.specs.declared.ledger.Skipped.{Skipped}
use Rattle.pass_strace.specs.Openings.{AreLast, IsLastByKey, key_of}

pub is_listed : (skipped : List Skipped) (i : ℕ) (d : Skipped) (number : ℕ) → i < length skipped → (get_or skipped i d).line ≡ number → Contains (map (λ s. s.line) skipped) number
is_listed skipped i d number less is = (i, (let size = length-map skipped (λ (s : Skipped). s.line) in omega (arith, size, less)), get_or-map (λ (s : Skipped). s.line) skipped i d number less ∙ is)

pub none_open : (lines : List (List ℕ)) (table : BTreeMap ℕ ℕ) → IsEmpty table → AreLast lines table 0
none_open lines table empty key j found =
    let none : get nat_cmp table key ≡ None = ap (λ es. lookup (λ k. is_eq (nat_cmp key k)) es) empty in
    let z : Some j ≡ None = sym found ∙ none in
    absurd (cc)

module _ (lines : List (List ℕ)) (table : BTreeMap ℕ ℕ) (k : ℕ) (walked : AreLast lines table k) where
  -- the line of a thread
  pub own_is : (process : List ℕ) (j : ℕ) → get nat_cmp table (key_of process) ≡ Some j → process_of (line_at lines j) ≡ process → IsLastOpen lines process k j
  own_is process j found is =
      let one = walked (key_of process) j found in
      record { earlier = one.earlier; own = is; opens = one.opens; last = λ m after ahead opens same. one.last m after ahead opens (ap key_of same) }

  -- a line that leaves none open
  pub closed_line : is_left_open (said_of (line_at lines k)) ≡ false → AreLast lines table (k + 1)
  closed_line closed key j found =
      let one = walked key j found in
      record {
        earlier = (let before = one.earlier in omega (arith, before));
        opens = one.opens;
        last = λ m after ahead opens same. elim (cases_lt m k) [
          | inl below ↦ one.last m after below opens same
          | inr above ↦
              let here : m ≡ k = omega (arith, ahead, above) in
              let z : true ≡ false = sym opens ∙ ap (λ n. is_left_open (said_of (line_at lines n))) here ∙ closed in
              absurd (cc)
        ];
      }

  module _ (later : BTreeMap ℕ ℕ) (opens_here : is_left_open (said_of (line_at lines k)) ≡ true) (updates : Updates nat_cmp table later (key_of (process_of (line_at lines k))) (Some k)) where
    abbrev here : ℕ
    here = key_of (process_of (line_at lines k))

    its_own : (key j : ℕ) → here ≡ key → k ≡ j → IsLastByKey lines key (k + 1) j
    its_own key j same is =
        record {
          earlier = omega (arith, is);
          opens = ap (λ n. is_left_open (said_of (line_at lines n))) (sym is) ∙ opens_here;
          last = λ m after ahead opens its. absurd (omega (arith, after, ahead, is));
        }

    of_another : (key j : ℕ) → (here ≡ key → ⊥) → IsLastByKey lines key k j → IsLastByKey lines key (k + 1) j
    of_another key j apart one =
        record {
          earlier = (let before = one.earlier in omega (arith, before));
          opens = one.opens;
          last = λ m after ahead opens its. elim (cases_lt m k) [
            | inl below ↦ one.last m after below opens its
            | inr above ↦
                let at : m ≡ k = omega (arith, ahead, above) in
                absurd (apart (ap (λ n. key_of (process_of (line_at lines n))) (sym at) ∙ its))
          ];
        }

    same_keys : is_eq (nat_cmp here here) ≡ true
    same_keys = sym (ap is_eq (nat_cmp_is here here Equal refl))

    by_test : (key j : ℕ) (b : Bool) → is_eq (nat_cmp here key) ≡ b → get nat_cmp later key ≡ Some j → IsLastByKey lines key (k + 1) j
    by_test key j true t found =
        its_own key j (nat_cmp-IsAntisymmetric here key (is_equal (nat_cmp here key) t)) (some_is k j (sym (updates.0 key ∙ ap (λ b. cond b (Some k) (get nat_cmp table key)) t) ∙ found))
    by_test key j false t found =
        of_another key j (λ same. let z : true ≡ false = sym same_keys ∙ ap (λ (q : ℕ). is_eq (nat_cmp here q)) same ∙ t in absurd (cc))
        (walked key j (sym (updates.0 key ∙ ap (λ b. cond b (Some k) (get nat_cmp table key)) t) ∙ found))

    -- a line that leaves one open
    pub open_line : AreLast lines later (k + 1)
    open_line key j found = by_test key j (is_eq (nat_cmp here key)) refl found
