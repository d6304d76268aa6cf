use Rattle.pass_graph.proofs.laws.first_opening.Goals as goal
use Rattle.pass_graph.proofs.Proved.{first_opening_law}
use Rattle.pass_graph.proofs.Prefixing.{first_start_law}

pub returns-clause-opens : goal.returns-clause-opens
returns-clause-opens c = first_opening_law

pub returns-clause-start : goal.returns-clause-start
returns-clause-start c = first_start_law
