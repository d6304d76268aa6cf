use Rattle.pass_version.proofs.laws.one_object.Goals as goal
use Rattle.pass_version.proofs.OneObject.{opening_law, step_law, others_law}

pub returns-clause-opens : goal.returns-clause-opens
returns-clause-opens c = opening_law

pub returns-clause-steps : goal.returns-clause-steps
returns-clause-steps c = step_law

pub returns-clause-others : goal.returns-clause-others
returns-clause-others c = others_law
