use Rattle.pass_progress.proofs.Bearing.{number_law}
use Rattle.pass_progress.proofs.Rests.{last_read_law, looked_law, under_way_law}
use Rattle.pass_progress.proofs.laws.standing.Goals as goal

pub returns-clause-under_way : goal.returns-clause-under_way
returns-clause-under_way c = under_way_law

pub returns-clause-last_read : goal.returns-clause-last_read
returns-clause-last_read c = last_read_law

pub returns-clause-looked : goal.returns-clause-looked
returns-clause-looked c = looked_law

pub returns-clause-number : goal.returns-clause-number
returns-clause-number c = number_law
