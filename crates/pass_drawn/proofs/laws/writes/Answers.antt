use Rattle.pass_drawn.proofs.laws.writes.Goals as goal
use Rattle.pass_drawn.proofs.Wrote.{wrote_law, text_law}

pub returns-clause-wrote : goal.returns-clause-wrote
returns-clause-wrote c = wrote_law

pub returns-clause-text : goal.returns-clause-text
returns-clause-text c = text_law
