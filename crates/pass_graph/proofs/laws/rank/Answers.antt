use Rattle.pass_graph.proofs.laws.rank.Goals as goal
use Rattle.pass_graph.proofs.Proved.{rank_law, opening_law, acyclic_law}

pub returns-clause-falls : goal.returns-clause-falls
returns-clause-falls c = rank_law

pub returns-clause-opening : goal.returns-clause-opening
returns-clause-opening c = opening_law

pub returns-clause-acyclic : goal.returns-clause-acyclic
returns-clause-acyclic c = acyclic_law
