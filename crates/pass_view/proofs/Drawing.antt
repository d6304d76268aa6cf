-- A text that is written part by part.
use Rattle.std.proofs.Common.{ℕ, ◌≡◌, ◌<◌, ◌+◌, sym, ap, ◌∙◌, List, [], ◌∷◌, ◌++◌, length, take, get_or, append_assoc}
use Rattle.std.specs.List.{flat_map}
use Rattle.std.proofs.lemmas.List.{append-nil, take_more}
use Rattle.std.proofs.lemmas.List.Concat.{flat_map-append}

-- what a list gives, with one more element
pub one_more : {X : Type 0} (h : X → List ℕ) (xs : List X) (x : X) (k : ℕ) (begun out new : List ℕ) → k < length xs → x ≡ get_or xs k x → out ≡ begun ++ flat_map h (take k xs)
    → new ≡ out ++ h x → new ≡ begun ++ flat_map h (take (k + 1) xs)
one_more h xs x k begun out new within at was wrote =
    wrote ∙ ap (λ o. o ++ h x) was ∙ append_assoc begun (flat_map h (take k xs)) (h x)
    ∙ ap (λ ys. begun ++ (flat_map h (take k xs) ++ ys)) (sym (append-nil (h x)))
    ∙ ap (λ ys. begun ++ ys) (sym (flat_map-append h (take k xs) (x ∷ [])))
    ∙ ap (λ ys. begun ++ flat_map h ys) (sym (take_more xs k x within ∙ ap (λ y. take k xs ++ y ∷ []) (sym at)))

-- a first line, four parts and a last line
pub drawn : {empty begun inner whole : List ℕ} (head a b c d last : List ℕ) → empty ≡ [] → begun ≡ empty ++ head → inner ≡ begun ++ a ++ b ++ c ++ d → whole ≡ inner ++ last → whole ≡ head ++ a ++ b ++ c ++ d ++ last
drawn head a b c d last nothing starts goes ends = ends ∙ ap (λ xs. xs ++ last) (goes ∙ ap (λ xs. xs ++ a ++ b ++ c ++ d) (starts ∙ ap (λ xs. xs ++ head) nothing))
