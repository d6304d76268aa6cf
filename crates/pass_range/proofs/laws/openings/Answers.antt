use Rattle.pass_range.proofs.laws.openings.Goals as goal
use Rattle.pass_range.proofs.Proved.{first_tells, opened_proved}

pub returns-clause-first : goal.returns-clause-first
returns-clause-first c = first_tells

pub returns-clause-opened : goal.returns-clause-opened
returns-clause-opened c = opened_proved
