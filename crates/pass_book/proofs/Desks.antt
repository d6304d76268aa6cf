-- The desks of an opening, from the last one on.
use Rattle.std.proofs.Common.{◌≡◌, ℕ, ◌+◌, List, [], ◌∷◌, ◌++◌, Option, Some, refl, ap, sym, ◌∙◌, append_assoc}
use Rattle.std.specs.Prelude.{map, option_to_list}
use Rattle.std.specs.List.{range_with_len}
use Rattle.std.proofs.lemmas.List.{same_from_push}
use Rattle.std.proofs.lemmas.List.FromFn.{map-range_with_len_more}
use Rattle.pass_plain.specs.declared.start.Start.{Start}
use Rattle.pass_book.specs.Openings.{opening_numbers, opening_desks, known_desk, new_desk, registry_desk}
use Rattle.pass_book.specs.Tokens.{BookId, DeskState}

-- one object more has its desk at the end
opening_more : (b : BookId) (start : Start) (n : ℕ) → opening_desks b start (n + 1) ≡ opening_desks b start n ++ new_desk b (start.ceiling + 1 + n) ∷ []
opening_more b start n =
    let first = registry_desk b ∷ map (known_desk b) (opening_numbers start) in
    ap (λ ds. first ++ ds) (map-range_with_len_more (new_desk b) (start.ceiling + 1) n (start.ceiling + 1 + n) refl)
    ∙ sym (append_assoc first (map (new_desk b) (range_with_len (start.ceiling + 1) n)) (new_desk b (start.ceiling + 1 + n) ∷ []))

-- the last desk that is taken is that of the last object
pub popped : (b : BookId) (start : Start) (n : ℕ) (desks rest : List DeskState) (o : Option DeskState) (d : DeskState) → desks ≡ opening_desks b start (n + 1)
    → desks ≡ rest ++ option_to_list o → o ≡ Some d → (d ≡ new_desk b (start.ceiling + 1 + n)) × (rest ≡ opening_desks b start n)
popped b start n desks rest o d all split is =
    let taken : desks ≡ rest ++ d ∷ [] = split ∙ ap (λ o. rest ++ option_to_list o) is in
    let both = same_from_push rest (opening_desks b start n) d (new_desk b (start.ceiling + 1 + n)) (sym taken ∙ all ∙ opening_more b start n) in
    (both.1, both.0)
