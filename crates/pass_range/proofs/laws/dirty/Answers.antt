use Rattle.pass_range.proofs.Dirtying.{source_law, dirtied_law, below_law}
use Rattle.pass_range.proofs.laws.dirty.Goals as goal

pub returns-clause-source : goal.returns-clause-source
returns-clause-source c = source_law

pub returns-clause-step : goal.returns-clause-step
returns-clause-step c = dirtied_law

pub returns-clause-below : goal.returns-clause-below
returns-clause-below c = below_law
