use Rattle.std.proofs.Common.{◌++◌, ap, sym, ◌∙◌}
use Rattle.std.proofs.lemmas.List.{append-nil}
use Rattle.pass_turns.specs.Tasks.{kid_tasks}
use Rattle.pass_turns.proofs.task.bear.Goals as goal

pub returns-in_default-clause-born : goal.returns-in_default-clause-born
returns-in_default-clause-born g c = sym (append-nil c.args.born.now.items) ∙ ap (λ kid. c.args.born.now.items ++ kid_tasks c.args.ground.now.plan.now kid) (sym c.in_default.is)
