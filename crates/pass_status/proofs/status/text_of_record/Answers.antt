use Rattle.std.proofs.Common.{ℕ, ◌≡◌, ◌∙◌, ap, ◌++◌, [], ◌∷◌, List, subst, IfOk, codes, decimal, string_bytes}
use Rattle.pass_status.proofs.Texts.{in_order}
use Rattle.pass_status.proofs.status.text_of_record.Goals as goal

pub returns : goal.returns
returns c =
    subst (λ (bytes : List ℕ). IfOk c.format.result (λ text. string_bytes text ≡ bytes))
    (in_order (codes "fault store record ") (decimal c.args.place) c.word_of_record-word.result.now
    ∙ ap (λ (word : List ℕ). codes "fault store record " ++ decimal c.args.place ++ codes " " ++ word ++ 10 ∷ []) c.word_of_record-word.ensures)
    c.format.ensures.ok
