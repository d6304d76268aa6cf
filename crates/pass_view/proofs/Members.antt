-- The tokens of an object and of an array, of one part behind the other.
use Rattle.std.proofs.Common.{◌≡◌, refl, sym, ap, ◌∙◌, List, [], ◌∷◌, ◌++◌, append_assoc}
use Rattle.std.specs.Prelude.{map}
use Rattle.std.specs.List.{flat_map}
use Rattle.std.proofs.lemmas.List.Concat.{flat_map-append}
use Rattle.json.specs.Json.{Json}
use Rattle.json.specs.Token.{end_object, end_array}
use Rattle.json.specs.Token as token
use Rattle.json.specs.Tree.{json_tokens, items_tokens, members_tokens}
use Rattle.pass_view.specs.Provs.{Member, items_of, member_tokens, members_of, tokens_of}

pub members_are : (ms : List Member) → members_tokens (members_of ms) ≡ tokens_of ms ++ end_object ∷ []
members_are [] = refl
members_are (m ∷ ms) =
    ap (λ ts. token.key m.0 ∷ (json_tokens m.1 ++ ts)) (members_are ms)
    ∙ ap (λ ts. token.key m.0 ∷ ts) (sym (append_assoc (json_tokens m.1) (tokens_of ms) (end_object ∷ [])))

-- members that each of a list has some of
each_some : {X : Type 0} (h : X → List Member) (xs : List X) → tokens_of (flat_map h xs) ≡ flat_map (λ x. tokens_of (h x)) xs
each_some h [] = refl
each_some h (x ∷ xs) = flat_map-append member_tokens (h x) (flat_map h xs) ∙ ap (λ ts. tokens_of (h x) ++ ts) (each_some h xs)

pub some_are : {X : Type 0} (h : X → List Member) (xs : List X) → members_tokens (members_of (flat_map h xs)) ≡ flat_map (λ x. tokens_of (h x)) xs ++ end_object ∷ []
some_are h xs = members_are (flat_map h xs) ∙ ap (λ ts. ts ++ end_object ∷ []) (each_some h xs)

-- members of which each of a list has one
each_one : {X : Type 0} (h : X → Member) (xs : List X) → tokens_of (map h xs) ≡ flat_map (λ x. member_tokens (h x)) xs
each_one h [] = refl
each_one h (x ∷ xs) = ap (λ ts. member_tokens (h x) ++ ts) (each_one h xs)

pub ones_are : {X : Type 0} (h : X → Member) (xs : List X) → members_tokens (members_of (map h xs)) ≡ flat_map (λ x. member_tokens (h x)) xs ++ end_object ∷ []
ones_are h xs = members_are (map h xs) ∙ ap (λ ts. ts ++ end_object ∷ []) (each_one h xs)

pub items_are : {X : Type 0} (json : X → Json) (xs : List X) → items_tokens (items_of json xs) ≡ flat_map (λ x. json_tokens (json x)) xs ++ end_array ∷ []
items_are json [] = refl
items_are json (x ∷ xs) = ap (λ ts. json_tokens (json x) ++ ts) (items_are json xs) ∙ sym (append_assoc (json_tokens (json x)) (flat_map (λ y. json_tokens (json y)) xs) (end_array ∷ []))
