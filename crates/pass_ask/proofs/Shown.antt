-- Words that are too few or too many for what is to be shown.
use Rattle.std.proofs.Common.{ℕ, ◌≡◌, ◌<◌, ◌≤◌, List, [], ◌∷◌, length, refl, arith}
use Rattle.std.specs.Prelude.{None, String, map, string_bytes}
use Rattle.std.specs.declared.alloc.Global.{Global}
use Rattle.pass_ask.specs.Shown.{shown_in}

module _ (folder : List ℕ) where
  pub none_shown : (words : List (String Global)) → length words < 1 → shown_in folder (map string_bytes words) ≡ None
  none_shown [] few = refl
  none_shown (x ∷ words) few = absurd (omega arith)

  pub too_many_shown : (words : List (String Global)) → 5 ≤ length words → shown_in folder (map string_bytes words) ≡ None
  too_many_shown [] many = absurd (omega arith)
  too_many_shown (x ∷ []) many = absurd (omega arith)
  too_many_shown (x ∷ y ∷ []) many = absurd (omega arith)
  too_many_shown (x ∷ y ∷ z ∷ []) many = absurd (omega arith)
  too_many_shown (x ∷ y ∷ z ∷ w ∷ []) many = absurd (omega arith)
  too_many_shown (x ∷ y ∷ z ∷ w ∷ v ∷ words) many = refl
