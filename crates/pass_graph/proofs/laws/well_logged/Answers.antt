use Rattle.pass_graph.proofs.laws.well_logged.Goals as goal
use Rattle.pass_graph.proofs.Noding.{nodes_law}
use Rattle.pass_graph.proofs.Ranking.{list_rank_law, list_acyclic_law}

pub returns-clause-nodes : goal.returns-clause-nodes
returns-clause-nodes c = nodes_law

pub returns-clause-falls : goal.returns-clause-falls
returns-clause-falls c = list_rank_law

pub returns-clause-acyclic : goal.returns-clause-acyclic
returns-clause-acyclic c = list_acyclic_law
