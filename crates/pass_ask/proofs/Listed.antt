-- Words that are too few or too many for a question.
use Rattle.std.proofs.Common.{◌≡◌, ◌<◌, ◌≤◌, Bool, false, List, [], ◌∷◌, length, refl, arith}
use Rattle.std.specs.Prelude.{Option, None, map}
use Rattle.std.specs.Borrow.{Bor}
use Rattle.pass_trace.specs.declared.limits.Scale.{Scale}
use Rattle.pass_ask.specs.Words.{Text, gen_in, match_in, query_in, recipe_in, send_in}

pub too_few : (name : Text) (words : List (Bor Text)) → length words < 1 → query_in name (map (λ w. w.now) words) ≡ None
too_few name [] few = refl
too_few name (x ∷ words) few = absurd (omega arith)

pub too_many : (name : Text) (words : List (Bor Text)) → 3 ≤ length words → query_in name (map (λ w. w.now) words) ≡ None
too_many name [] many = absurd (omega arith)
too_many name (x ∷ []) many = absurd (omega arith)
too_many name (x ∷ y ∷ []) many = absurd (omega arith)
too_many name (x ∷ y ∷ z ∷ words) many = refl

pub no_recipe : (words : List (Bor Text)) → length words < 1 → recipe_in false (map (λ w. w.now) words) ≡ None
no_recipe [] few = refl
no_recipe (x ∷ words) few = absurd (omega arith)

pub recipe_too_long : (words : List (Bor Text)) → 2 ≤ length words → recipe_in false (map (λ w. w.now) words) ≡ None
recipe_too_long [] many = absurd (omega arith)
recipe_too_long (x ∷ []) many = absurd (omega arith)
recipe_too_long (x ∷ y ∷ words) many = refl

pub match_too_short : (json : Bool) (words : List (Bor Text)) → length words < 2 → match_in json (map (λ w. w.now) words) ≡ None
match_too_short json [] few = refl
match_too_short json (x ∷ []) few = refl
match_too_short json (x ∷ y ∷ words) few = absurd (omega arith)

pub match_too_long : (json : Bool) (words : List (Bor Text)) → 3 ≤ length words → match_in json (map (λ w. w.now) words) ≡ None
match_too_long json [] many = absurd (omega arith)
match_too_long json (x ∷ []) many = absurd (omega arith)
match_too_long json (x ∷ y ∷ []) many = absurd (omega arith)
match_too_long json (x ∷ y ∷ z ∷ words) many = refl

pub no_place : (words : List (Bor Text)) → length words < 1 → send_in false (map (λ w. w.now) words) ≡ None
no_place [] few = refl
no_place (x ∷ words) few = absurd (omega arith)

pub places_too_many : (words : List (Bor Text)) → 2 ≤ length words → send_in false (map (λ w. w.now) words) ≡ None
places_too_many [] many = absurd (omega arith)
places_too_many (x ∷ []) many = absurd (omega arith)
places_too_many (x ∷ y ∷ words) many = refl

pub drawn_too_short : (scale : Scale) (workers : Option Text) (words : List (Bor Text)) → length words < 2 → gen_in scale false workers (map (λ w. w.now) words) ≡ None
drawn_too_short scale workers [] few = refl
drawn_too_short scale workers (x ∷ []) few = refl
drawn_too_short scale workers (x ∷ y ∷ words) few = absurd (omega arith)

pub drawn_too_long : (scale : Scale) (workers : Option Text) (words : List (Bor Text)) → 3 ≤ length words → gen_in scale false workers (map (λ w. w.now) words) ≡ None
drawn_too_long scale workers [] many = absurd (omega arith)
drawn_too_long scale workers (x ∷ []) many = absurd (omega arith)
drawn_too_long scale workers (x ∷ y ∷ []) many = absurd (omega arith)
drawn_too_long scale workers (x ∷ y ∷ z ∷ words) many = refl
