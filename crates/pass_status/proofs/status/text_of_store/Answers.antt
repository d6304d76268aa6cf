use Rattle.std.proofs.Common.{ℕ, ◌≡◌, ◌∙◌, ap, sym, List, subst, IfOk, codes, decimal, string_bytes}
use Rattle.pass_entry.specs.Words.{flaw_word}
use Rattle.pass_status.specs.Statuses.{store_text}
use Rattle.pass_status.proofs.Texts.{in_order}
use Rattle.pass_status.proofs.status.text_of_store.Goals as goal

pub returns-in-Flaw : goal.returns-in-Flaw
returns-in-Flaw c =
    subst (λ (bytes : List ℕ). IfOk c.format-in-Flaw.result (λ text. string_bytes text ≡ bytes))
    (in_order (codes "fault store flaw ") (decimal c.in-Flaw.place) (flaw_word c.in-Flaw.reason) ∙ sym (ap store_text c.in-Flaw.is))
    c.format-in-Flaw.ensures.ok
