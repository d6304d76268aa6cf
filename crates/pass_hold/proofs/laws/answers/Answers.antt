use Rattle.pass_hold.proofs.Goings.{answered_law, unanswered_law}
use Rattle.pass_hold.proofs.laws.answers.Goals as goal

pub returns-clause-made : goal.returns-clause-made
returns-clause-made c = answered_law

pub returns-clause-unmade : goal.returns-clause-unmade
returns-clause-unmade c = unanswered_law
