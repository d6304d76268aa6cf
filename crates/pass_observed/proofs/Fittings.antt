-- A spelling by one byte more, and at its end.
use Rattle.std.proofs.Common.{ℕ, ◌≡◌, ◌∙◌, ◌≤◌, ◌<◌, ◌+◌, ◌-◌, ◌++◌, ◌∷◌, [], List, length, drop, get_or, ap, sym, append_assoc}
use Rattle.std.proofs.lemmas.Bool.{cond-true, cond-false, le-leb, lt-leb}
use Rattle.std.proofs.lemmas.List.{append-nil, drop_more}
use Rattle.pass_observed.specs.Spellings.{fitting, spelled_byte}

fitting_more : (room b : ℕ) (bytes : List ℕ) → length (spelled_byte b) ≤ room → fitting room (b ∷ bytes) ≡ spelled_byte b ++ fitting (room - length (spelled_byte b)) bytes
fitting_more room b bytes fits = cond-true _ _ _ (le-leb _ _ fits)

fitting_none : (room b : ℕ) (bytes : List ℕ) → room < length (spelled_byte b) → fitting room (b ∷ bytes) ≡ []
fitting_none room b bytes over = cond-false _ _ _ (lt-leb _ _ over)

pub fitting_step : (whole text bytes : List ℕ) (room i : ℕ) → i < length bytes → length (spelled_byte (get_or bytes i 0)) ≤ room → whole ≡ text ++ fitting room (drop i bytes)
    → whole ≡ (text ++ spelled_byte (get_or bytes i 0)) ++ fitting (room - length (spelled_byte (get_or bytes i 0))) (drop (i + 1) bytes)
fitting_step whole text bytes room i within fits is =
    is ∙ ap (λ xs. text ++ xs) (ap (fitting room) (drop_more bytes i 0 within) ∙ fitting_more room (get_or bytes i 0) (drop (i + 1) bytes) fits) ∙ sym (append_assoc text (spelled_byte (get_or bytes i 0)) (fitting (room - length (spelled_byte (get_or bytes i 0))) (drop (i + 1) bytes)))

pub fitting_stop : (whole text bytes : List ℕ) (room i : ℕ) → i < length bytes → room < length (spelled_byte (get_or bytes i 0)) → whole ≡ text ++ fitting room (drop i bytes) → text ≡ whole
fitting_stop whole text bytes room i within over is =
    sym (is ∙ ap (λ xs. text ++ xs) (ap (fitting room) (drop_more bytes i 0 within) ∙ fitting_none room (get_or bytes i 0) (drop (i + 1) bytes) over) ∙ append-nil text)
