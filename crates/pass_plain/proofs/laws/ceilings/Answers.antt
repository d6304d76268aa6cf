use Rattle.pass_plain.proofs.Raising.{raised_law, one_ceiling_law, few_ceilings_law, ceiling_range_law}
use Rattle.pass_plain.proofs.laws.ceilings.Goals as goal

pub returns-clause-fine : goal.returns-clause-fine
returns-clause-fine c = raised_law

pub returns-clause-one : goal.returns-clause-one
returns-clause-one c = one_ceiling_law

pub returns-clause-few : goal.returns-clause-few
returns-clause-few c = few_ceilings_law

pub returns-clause-in_range : goal.returns-clause-in_range
returns-clause-in_range c = ceiling_range_law
