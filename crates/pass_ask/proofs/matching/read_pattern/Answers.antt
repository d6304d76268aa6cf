use Rattle.std.proofs.Common.{ℕ, List, Err, ap, subst}
use Rattle.pass_pattern.specs.Grammar.{IsBad}
use Rattle.pass_ask.proofs.matching.read_pattern.Goals as goal

pub returns-in-Err-Bad-clause-refused : goal.returns-in-Err-Bad-clause-refused
returns-in-Err-Bad-clause-refused c =
    subst (λ (text : List ℕ). IsBad text c.in-Err-Bad.at) c.as_bytes.ensures (c.in-Err-Bad.ensures.bad c.in-Err-Bad.at (ap (λ e. Err e) c.in-Err-Bad.field-0-is))
