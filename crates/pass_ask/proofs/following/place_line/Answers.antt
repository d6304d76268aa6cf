use Rattle.std.proofs.Common.{◌≡◌, ℕ, List, [], ◌∷◌, ◌++◌, sym, ◌∙◌, subst, append_assoc, IfOk, codes, decimal, string_bytes}
use Rattle.pass_ask.proofs.following.place_line.Goals as goal

-- a line of two words with their numbers
in_order : (word number other rest : List ℕ) → word ++ (number ++ (other ++ (rest ++ 10 ∷ []))) ≡ word ++ number ++ other ++ rest ++ 10 ∷ []
in_order word number other rest =
    sym (append_assoc (word ++ number ++ other) rest (10 ∷ []) ∙ append_assoc (word ++ number) other (rest ++ 10 ∷ [])
    ∙ append_assoc word number (other ++ (rest ++ 10 ∷ [])))

pub returns : goal.returns
returns c =
    subst (λ (bytes : List ℕ). IfOk c.format.result (λ text. string_bytes text ≡ bytes))
    (in_order (codes "position ") (decimal c.args.position) (codes " rest ") (decimal c.args.rest)) c.format.ensures.ok
