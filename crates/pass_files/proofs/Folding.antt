-- What records say, with one more record.
use Rattle.std.proofs.Common.{ℕ, ◌≡◌, ◌<◌, ◌+◌, ◌∙◌, Bool, ◌||◌, sym, ap, List, [], ◌∷◌, ◌++◌, length, take, get_or}
use Rattle.std.specs.Prelude.{fold}
use Rattle.std.specs.List.{list_any}
use Rattle.std.proofs.lemmas.List.{take_more}
use Rattle.std.proofs.lemmas.List.Folds.{list_any-append}
use Rattle.std.proofs.lemmas.List.Sums.{fold-append}
use Rattle.pass_entry.specs.declared.record.Record.{Record}
use Rattle.pass_entry.proofs.Lists.{or_none}

pub one_more : {X : Type 0} (xs : List X) (k : ℕ) (x : X) → k < length xs → x ≡ get_or xs k x → take (k + 1) xs ≡ take k xs ++ x ∷ []
one_more xs k x within at = take_more xs k x within ∙ ap (λ y. take k xs ++ y ∷ []) (sym at)

pub fold_more : {S : Type 0} (look : S → Record → S) (z : S) (xs : List Record) (k : ℕ) (x : Record) → k < length xs → x ≡ get_or xs k x → look (fold look z (take k xs)) x ≡ fold look z (take (k + 1) xs)
fold_more look z xs k x within at = sym (ap (fold look z) (one_more xs k x within at) ∙ fold-append look z (take k xs) (x ∷ []))

pub any_more : (p : Record → Bool) (xs : List Record) (k : ℕ) (x : Record) → k < length xs → x ≡ get_or xs k x → (list_any p (take k xs) || p x) ≡ list_any p (take (k + 1) xs)
any_more p xs k x within at =
    sym (ap (list_any p) (one_more xs k x within at) ∙ list_any-append p (take k xs) (x ∷ []) ∙ ap (λ b. list_any p (take k xs) || b) (or_none (p x)))
