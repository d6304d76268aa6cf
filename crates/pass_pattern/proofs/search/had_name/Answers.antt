use Rattle.std.proofs.Common.{◌≡◌, true, sym, ◌∙◌, subst}
use Rattle.std.specs.Prelude.{◌↔◌}
use Rattle.pass_pattern.specs.Patterns.{HadName}
use Rattle.pass_pattern.proofs.Holding.{found_there}
use Rattle.pass_pattern.proofs.search.had_name.Goals as goal

pub returns-in-Some : goal.returns-in-Some
returns-in-Some c =
    let row = c.by_name.result.now in
    let x = c.args.node.now.pnode in
    let found = found_there row x c.binary_search.result c.by_name.ensures.ascending c.binary_search.ensures.position in
    subst (λ n. (c.is_ok.result ≡ true) ↔ HadName c.args.index.now n x) (sym c.in-Some.is)
    (λ so. (c.by_name.ensures.all x).0 (found.0 (sym c.is_ok.ensures.value ∙ so)), λ named. c.is_ok.ensures.value ∙ found.1 ((c.by_name.ensures.all x).1 named))
