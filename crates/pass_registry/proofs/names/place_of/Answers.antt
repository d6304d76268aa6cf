use Rattle.std.proofs.Common.{◌≡◌, ℕ, List, rules}
use Rattle.std.specs.Prelude.{Result, Ok, Err}
use Rattle.std.proofs.lemmas.Fn.{answers_by}
use Rattle.std.specs.List.Sorted.{IsBinarySearchResult}
use Rattle.std.specs.Ordering.{nat_cmp}
use Rattle.std.specs.Cmp.Lexicographic.{slice_cmp, nat_list_cmp_total}
use Rattle.pass_registry.specs.Places.{Entries, IsAscending, IsPlaceOf}
use Rattle.pass_registry.proofs.Ascending.{rising}
use Rattle.pass_registry.proofs.names.place_of.Goals as goal

searched : (name : List ℕ) (es : Entries) → IsAscending es → (r : Result ℕ ℕ)
    → IsBinarySearchResult (λ (e : List ℕ × ℕ). slice_cmp nat_cmp e.0 name) es r → IsPlaceOf name es r
searched name es ascending (Ok i) found = found
searched name es ascending (Err i) found = found (rising (slice_cmp nat_cmp) nat_list_cmp_total name es ascending)

pub returns-clause-place : goal.returns-clause-place
returns-clause-place c =
    searched c.args.name.now c.args.entries.now c.requires c.binary_search_by.result
    (c.binary_search_by.ensures.position (λ (e : List ℕ × ℕ). slice_cmp nat_cmp e.0 c.args.name.now)
    (answers_by _ _ (λ f. f ≡ record { 0 = c.args.name }) (λ f a r g called i. (search rules, search rules)) _ (λ i. record { 0 = c.args.name })))
