-- Another file has a name exactly where the holder of the name is another file.
use Rattle.std.proofs.Common.{ℕ, ◌≡◌, ◌≤◌, ◌==◌, Bool, true, false, not, ◌||◌, refl, sym, ap, ◌∙◌, List, [], ◌∷◌, length, arith}
use Rattle.std.specs.Prelude.{Option, Some, None, IfSome, bytes_eq, fold, if◌then◌else◌}
use Rattle.std.specs.Option.{option_map_or}
use Rattle.std.specs.List.{list_any}
use Rattle.std.proofs.lemmas.Slice.Eq.{bytes_eq-Decides}
use Rattle.std.proofs.lemmas.Bool.{or_right, or_left}
use Rattle.pass_entry.specs.declared.record.Record.{Record}
use Rattle.pass_entry.specs.declared.record.Record.TheVariants as log
use Rattle.pass_plain.specs.WellLogged.{last_name_of, name_look, names_other}
use Rattle.pass_plain.proofs.Lists.{same_numbers, same_itself, true_left, true_right, both_true, not_true}

same_text : (a b : List ℕ) → a ≡ b → bytes_eq a b ≡ true
same_text a b same = (bytes_eq-Decides a b).1 same

other_number : (a b : ℕ) → (a ≡ b → ⊥) → not (a == b) ≡ true
other_number a b apart = at_test (a == b) refl
  where
    at_test : (t : Bool) → (a == b) ≡ t → not t ≡ true
    at_test true is = absurd (apart (same_numbers a b is))
    at_test false is = refl

module _ (list : List Record) (object : ℕ) (name : List ℕ) where
  abbrev other : Record → Bool
  other = names_other list object name

  -- a name that a fold arrives at was given on the way
  named_in : (q : ℕ) → (q ≡ object → ⊥) → last_name_of list q ≡ name → (records : List Record) (before : List ℕ) → (before ≡ name → ⊥) → fold (name_look q) before records ≡ name → list_any other records ≡ true
  named_in q apart last [] before apart_from is = absurd (apart_from is)
  named_in q apart last (log.Name p given ∷ rest) before apart_from is = at_test (p == q) refl (λ later. named_in q apart last rest before apart_from later)
    where
      at_test : (t : Bool) → (p == q) ≡ t → (fold (name_look q) before rest ≡ name → list_any other rest ≡ true) → list_any other (log.Name p given ∷ rest) ≡ true
      at_test true same later =
          let here : p ≡ q = same_numbers p q same in
          or_left _ (list_any other rest) (both_true (not (p == object)) _ (other_number p object (λ e. apart (sym here ∙ e))) (same_text _ name (ap (last_name_of list) here ∙ last)))
      at_test false differ later = or_right (other (log.Name p given)) _
          (later (sym (ap (λ b. fold (name_look q) (if b then given else before) rest) differ) ∙ is))
  named_in q apart last (r ∷ rest) before apart_from is = named_in q apart last rest before apart_from is

  pub other_of : 1 ≤ length name → (q : ℕ) → (q ≡ object → ⊥) → last_name_of list q ≡ name → list_any other list ≡ true
  other_of some q apart last = named_in q apart last list [] (λ none. let z = ap length none in omega (arith, z, some)) last

  pub other_from : (records : List Record) → list_any other records ≡ true → (q : ℕ) × (q ≡ object → ⊥) × (last_name_of list q ≡ name)
  other_from [] is = absurd (cc)
  other_from (log.Name p given ∷ rest) is = at_test (other (log.Name p given)) refl (λ later. other_from rest later)
    where
      at_test : (t : Bool) → other (log.Name p given) ≡ t → (list_any other rest ≡ true → (q : ℕ) × (q ≡ object → ⊥) × (last_name_of list q ≡ name)) → (q : ℕ) × (q ≡ object → ⊥) × (last_name_of list q ≡ name)
      at_test true passes later =
          let apart : (p == object) ≡ false = not_true (p == object) (true_left _ _ passes) in
          (p, (λ same. let z : true ≡ false = sym (same_itself object) ∙ sym (ap (λ n. n == object) same) ∙ apart in cc), (bytes_eq-Decides (last_name_of list p) name).0 (true_right _ _ passes))
      at_test false fails later = later (sym (ap (λ b. b || list_any other rest) fails) ∙ is)
  other_from (r ∷ rest) is = other_from rest is

  -- the file that has the name, if there is one, tells whether another one has it
  pub other_holder : 1 ≤ length name → (holder : Option ℕ) → IfSome holder (λ p. last_name_of list p ≡ name) → ((p : ℕ) → last_name_of list p ≡ name → holder ≡ Some p)
      → option_map_or (λ p. not (p == object)) holder false ≡ list_any other list
  other_holder some None named alone = at_test (list_any other list) refl
    where
      at_test : (t : Bool) → list_any other list ≡ t → false ≡ t
      at_test true is = absurd (let w = other_from list is in let z : None ≡ Some w.0 = alone w.0 w.2 in cc)
      at_test false is = refl
  other_holder some (Some p) named alone = at_test (p == object) refl (list_any other list) refl
    where
      at_test : (s : Bool) → (p == object) ≡ s → (t : Bool) → list_any other list ≡ t → not s ≡ t
      at_test true same true is = absurd (let w = other_from list is in let z : ◌≡◌ {A = Option ℕ} (Some p) (Some w.0) = alone w.0 w.2 in let e : p ≡ w.0 = cc in w.1 (sym e ∙ same_numbers p object same))
      at_test true same false is = refl
      at_test false differ true is = refl
      at_test false differ false is = absurd (let z : true ≡ false = sym (other_of some p (λ same. let y : true ≡ false = sym (same_itself object) ∙ sym (ap (λ n. n == object) same) ∙ differ in cc) named) ∙ is in cc)
