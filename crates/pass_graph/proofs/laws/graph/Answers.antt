use Rattle.pass_graph.proofs.laws.graph.Goals as goal
use Rattle.pass_graph.proofs.Proved.{graph_law, own_graph_law}

pub returns-clause-after_records : goal.returns-clause-after_records
returns-clause-after_records c = graph_law

pub returns-clause-alone : goal.returns-clause-alone
returns-clause-alone c = own_graph_law
