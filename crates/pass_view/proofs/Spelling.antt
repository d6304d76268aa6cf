-- Words of a shell's line.
use Rattle.std.proofs.Common.{ℕ, ◌≡◌, ◌∙◌, refl, ap, List, [], ◌∷◌, ◌++◌}
use Rattle.std.specs.Prelude.{map}
use Rattle.std.specs.Borrow.{Bor}
use Rattle.std.specs.List.{flat_map}
use Rattle.pass_view.specs.Labels.{next_word}

words_are : (words : List (Bor (List ℕ))) → flat_map (λ w. next_word w.now) words ≡ flat_map next_word (map (λ w. w.now) words)
words_are [] = refl
words_are (w ∷ words) = ap (λ text. next_word w.now ++ text) (words_are words)

-- the words of a list, which are those of a text
pub each_word : (words : List (Bor (List ℕ))) (texts : List (List ℕ)) → map (λ w. w.now) words ≡ texts → flat_map (λ w. next_word w.now) words ≡ flat_map next_word texts
each_word words texts are = words_are words ∙ ap (flat_map next_word) are
