-- Elements of lists that were filtered, mapped and joined.
use Rattle.std.proofs.Common.{◌≡◌, ℕ, zero, suc, List, [], ◌∷◌, ◌++◌, map, refl, ap, sym, ◌∙◌, subst, ◌⊎◌, inl, inr, Bool, true, false, cond, All, get_or}
use Rattle.std.specs.Prelude.{Some, slice_get, Contains, filter}
use Rattle.std.specs.List.{flat_map}
use Rattle.std.proofs.lemmas.List.Elements.{Contains-get_or}
use Rattle.pass_plain.proofs.Lists.{some_is}
use Rattle.pass_entry.proofs.Places.{Contains-place, Contains-at}

abbrev pub Among : {X : Type 0} → X → List X → Type 0
Among x [] = ⊥
Among x (y ∷ ys) = (y ≡ x) ⊎ Among x ys

from_at : {X : Type 0} (xs : List X) (k : ℕ) (x : X) → slice_get xs k ≡ Some x → Among x xs
from_at [] k x at = absurd (cc)
from_at (y ∷ xs) zero x at = inl (some_is y x at)
from_at (y ∷ xs) (suc k) x at = inr (from_at xs k x at)

pub among : {X : Type 0} (xs : List X) (x : X) → Contains xs x → Among x xs
among xs x h = let (k, at) = Contains-place xs x h in from_at xs k x at

to_at : {X : Type 0} (xs : List X) (x : X) → Among x xs → (k : ℕ) × (slice_get xs k ≡ Some x)
to_at [] x h = absurd h
to_at (y ∷ xs) x (inl same) = (zero, ap (λ y. Some y) same)
to_at (y ∷ xs) x (inr rest) = let (k, at) = to_at xs x rest in (suc k, at)

pub contains : {X : Type 0} (xs : List X) (x : X) → Among x xs → Contains xs x
contains xs x h = let (k, at) = to_at xs x h in Contains-at xs k x at

pub all_of : {X : Type 0} (P : X → Type 0) (xs : List X) → ((x : X) → Contains xs x → P x) → All P xs
all_of P xs f = λ k d less. f (get_or xs k d) (Contains-get_or xs k d less)

pub in_left : {X : Type 0} (xs ys : List X) (x : X) → Among x xs → Among x (xs ++ ys)
in_left [] ys x h = absurd h
in_left (y ∷ xs) ys x (inl same) = inl same
in_left (y ∷ xs) ys x (inr rest) = inr (in_left xs ys x rest)

pub in_right : {X : Type 0} (xs ys : List X) (x : X) → Among x ys → Among x (xs ++ ys)
in_right [] ys x h = h
in_right (y ∷ xs) ys x h = inr (in_right xs ys x h)

pub in_both : {X : Type 0} (xs ys : List X) (x : X) → Among x (xs ++ ys) → Among x xs ⊎ Among x ys
in_both [] ys x h = inr h
in_both (y ∷ xs) ys x (inl same) = inl (inl same)
in_both (y ∷ xs) ys x (inr rest) = elim (in_both xs ys x rest) [ inl l ↦ inl (inr l) | inr r ↦ inr r ]

pub of_map : {X Y : Type 0} (f : X → Y) (xs : List X) (y : Y) → Among y (map f xs) → (x : X) × Among x xs × (f x ≡ y)
of_map f [] y h = absurd h
of_map f (x ∷ xs) y (inl same) = (x, inl refl, same)
of_map f (x ∷ xs) y (inr rest) = let (z, there, same) = of_map f xs y rest in (z, inr there, same)

pub to_map : {X Y : Type 0} (f : X → Y) (xs : List X) (x : X) → Among x xs → Among (f x) (map f xs)
to_map f [] x h = absurd h
to_map f (y ∷ xs) x (inl same) = inl (ap f same)
to_map f (y ∷ xs) x (inr rest) = inr (to_map f xs x rest)

filtered_if : {X : Type 0} (p : X → Bool) (y : X) (xs : List X) (x : X) → (b : Bool) → p y ≡ b → (Among x (filter p xs) → Among x xs × (p x ≡ true)) → Among x (cond b (y ∷ filter p xs) (filter p xs)) → Among x (y ∷ xs) × (p x ≡ true)
filtered_if p y xs x true t later (inl same) = (inl same, ap p (sym same) ∙ t)
filtered_if p y xs x true t later (inr rest) = let (there, passes) = later rest in (inr there, passes)
filtered_if p y xs x false t later rest = let (there, passes) = later rest in (inr there, passes)

pub of_filter : {X : Type 0} (p : X → Bool) (xs : List X) (x : X) → Among x (filter p xs) → Among x xs × (p x ≡ true)
of_filter p [] x h = absurd h
of_filter p (y ∷ xs) x h = filtered_if p y xs x (p y) refl (of_filter p xs x) h

kept_if : {X : Type 0} (p : X → Bool) (y : X) (xs : List X) (x : X) → (b : Bool) → p y ≡ b → (Among x xs → Among x (filter p xs)) → Among x (y ∷ xs) → p x ≡ true → Among x (cond b (y ∷ filter p xs) (filter p xs))
kept_if p y xs x true t later (inl same) passes = inl same
kept_if p y xs x true t later (inr rest) passes = inr (later rest)
kept_if p y xs x false t later (inl same) passes = absurd (let z : true ≡ false = sym passes ∙ ap p (sym same) ∙ t in cc)
kept_if p y xs x false t later (inr rest) passes = later rest

pub to_filter : {X : Type 0} (p : X → Bool) (xs : List X) (x : X) → Among x xs → p x ≡ true → Among x (filter p xs)
to_filter p [] x h passes = absurd h
to_filter p (y ∷ xs) x h passes = kept_if p y xs x (p y) refl (λ rest. to_filter p xs x rest passes) h passes

pub of_flat : {X Y : Type 0} (f : X → List Y) (xs : List X) (y : Y) → Among y (flat_map f xs) → (x : X) × Among x xs × Among y (f x)
of_flat f [] y h = absurd h
of_flat f (x ∷ xs) y h = elim (in_both (f x) (flat_map f xs) y h) [
  | inl l ↦ (x, inl refl, l)
  | inr r ↦ let (z, there, its) = of_flat f xs y r in (z, inr there, its)
]

pub to_flat : {X Y : Type 0} (f : X → List Y) (xs : List X) (x : X) (y : Y) → Among x xs → Among y (f x) → Among y (flat_map f xs)
to_flat f [] x y h its = absurd h
to_flat f (z ∷ xs) x y (inl same) its = in_left (f z) (flat_map f xs) y (subst (λ z. Among y (f z)) (sym same) its)
to_flat f (z ∷ xs) x y (inr rest) its = in_right (f z) (flat_map f xs) y (to_flat f xs x y rest its)
