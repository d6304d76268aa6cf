-- Words that are too few or too many for a question about names.
use Rattle.std.proofs.Common.{ℕ, ◌≡◌, ◌<◌, ◌≤◌, ◌+◌, ◌==◌, ◌∙◌, zero, suc, List, [], ◌∷◌, length, drop, get_or, refl, ap, arith}
use Rattle.std.specs.Prelude.{Some, None, map}
use Rattle.std.specs.Borrow.{Bor}
use Rattle.pass_entry.proofs.Lists.{alike}
use Rattle.pass_ask.specs.Telling.{inputs_in, last_at, named_in, or_here, outputs_in}
use Rattle.pass_ask.specs.Words.{Text}
use Rattle.pass_ask.specs.declared.telling.Flags.{Flags}

pub inputs_too_few : (flags : Flags) (words : List (Bor Text)) → length words < 1 → inputs_in flags (map (λ w. w.now) words) ≡ None
inputs_too_few flags [] few = refl
inputs_too_few flags (x ∷ words) few = absurd (omega arith)

pub inputs_too_many : (flags : Flags) (words : List (Bor Text)) → 2 ≤ length words → inputs_in flags (map (λ w. w.now) words) ≡ None
inputs_too_many flags [] many = absurd (omega arith)
inputs_too_many flags (x ∷ []) many = absurd (omega arith)
inputs_too_many flags (x ∷ y ∷ words) many = refl

pub outputs_too_few : (flags : Flags) (words : List (Bor Text)) → length words < 1 → outputs_in flags (map (λ w. w.now) words) ≡ None
outputs_too_few flags [] few = refl
outputs_too_few flags (x ∷ words) few = absurd (omega arith)

pub outputs_too_many : (flags : Flags) (words : List (Bor Text)) → 2 ≤ length words → outputs_in flags (map (λ w. w.now) words) ≡ None
outputs_too_many flags [] many = absurd (omega arith)
outputs_too_many flags (x ∷ []) many = absurd (omega arith)
outputs_too_many flags (x ∷ y ∷ words) many = refl

pub named_too_few : (name : Text) (words : List (Bor Text)) → length words < 1 → named_in name (map (λ w. w.now) words) ≡ None
named_too_few name [] few = refl
named_too_few name (x ∷ words) few = absurd (omega arith)

pub named_too_many : (name : Text) (words : List (Bor Text)) → 3 ≤ length words → named_in name (map (λ w. w.now) words) ≡ None
named_too_many name [] many = absurd (omega arith)
named_too_many name (x ∷ []) many = absurd (omega arith)
named_too_many name (x ∷ y ∷ []) many = absurd (omega arith)
named_too_many name (x ∷ y ∷ z ∷ words) many = refl

-- the last `@`, from behind
pub here_last : (word : List ℕ) (k : ℕ) (d : ℕ) → k < length word → get_or word k d ≡ 64 → last_at (drop (suc k) word) ≡ None → last_at word ≡ Some k
here_last [] k d within at none = absurd (omega (arith, within))
here_last (b ∷ bs) zero d within at none = ap (or_here (b == 64)) none ∙ ap (λ t. or_here t None) (alike b 64 at)
here_last (b ∷ bs) (suc k) d within at none =
    ap (or_here (b == 64)) (here_last bs k d (omega (arith, within)) at none) ∙ ap (λ n. Some n) (let z : k + 1 ≡ suc k = omega arith in z)
