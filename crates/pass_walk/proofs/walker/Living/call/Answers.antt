use Rattle.std.proofs.Common.{subst}
use Rattle.pass_walk.specs.Outcomes.{IsAfter}
use Rattle.pass_walk.proofs.walker.Living.call.Goals as goal

pub returns : goal.returns
returns g c = c.make-outcome.ensures c.after.result (subst (λ left. IsAfter c.make-outcome.result c.make-outcome.new.self.line left c.make-outcome.new.self c.after.result) c.left_to-left.ensures c.after.ensures)
