use Rattle.pass_bounds.proofs.Lengths.{length_law}
use Rattle.pass_bounds.proofs.Ranges.{in_range_law}
use Rattle.pass_bounds.proofs.laws.histories.Goals as goal

pub returns-clause-ranges : goal.returns-clause-ranges
returns-clause-ranges c = in_range_law

pub returns-clause-lengths : goal.returns-clause-lengths
returns-clause-lengths c = length_law
