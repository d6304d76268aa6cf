-- A line of a head, a number and a word.
use Rattle.std.proofs.Common.{◌≡◌, ℕ, List, [], ◌∷◌, ◌++◌, sym, ◌∙◌, codes, append_assoc}

pub in_order : (head number word : List ℕ) → head ++ (number ++ (codes " " ++ (word ++ 10 ∷ []))) ≡ head ++ number ++ codes " " ++ word ++ 10 ∷ []
in_order head number word =
    sym (append_assoc (head ++ number ++ codes " ") word (10 ∷ []) ∙ append_assoc (head ++ number) (codes " ") (word ++ 10 ∷ [])
    ∙ append_assoc head number (codes " " ++ (word ++ 10 ∷ [])))
