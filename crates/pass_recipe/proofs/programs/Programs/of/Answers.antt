use Rattle.std.proofs.Common.{ap, ◌∙◌}
use Rattle.pass_recipe.specs.Programs.{first_value}
use Rattle.pass_recipe.proofs.programs.Programs.of.Goals as goal

pub returns-clause-exes : goal.returns-clause-exes
returns-clause-exes c = λ n. c.in_ok-values.ensures n ∙ ap (λ attr. first_value c.args.index.now attr n) c.as_bytes.ensures.value
