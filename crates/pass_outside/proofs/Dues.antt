-- Counts of the calls that were to fail.
use Rattle.std.proofs.Common.{◌≡◌, ℕ, ◌+◌, Bool, true, false, List, Option, cond, ◌∙◌, ap, add-one, sym, arith}
use Rattle.pass_outside.specs.Scripts.{is_due, due_among}

-- one call more
due_more : (fail : List ℕ) (stop : Option ℕ) (n : ℕ) → due_among fail stop (n + 1) ≡ due_among fail stop n + cond (is_due fail stop (n + 1)) 1 0
due_more fail stop n = ap (due_among fail stop) (add-one n) ∙ ap (λ (k : ℕ). due_among fail stop n + cond (is_due fail stop k) 1 0) (sym (add-one n))

-- one that was to fail
pub one_due : (fail : List ℕ) (stop : Option ℕ) (n : ℕ) → is_due fail stop (n + 1) ≡ true → due_among fail stop (n + 1) ≡ due_among fail stop n + 1
one_due fail stop n due = due_more fail stop n ∙ ap (λ (b : Bool). due_among fail stop n + cond b 1 0) due

-- one that was not
pub none_due : (fail : List ℕ) (stop : Option ℕ) (n : ℕ) → is_due fail stop (n + 1) ≡ false → due_among fail stop (n + 1) ≡ due_among fail stop n
none_due fail stop n due = due_more fail stop n ∙ ap (λ (b : Bool). due_among fail stop n + cond b 1 0) due ∙ omega arith
