use Rattle.pass_graph.proofs.laws.path_gives_chain.Goals as goal
use Rattle.pass_graph.proofs.Proved.{path_law}

pub returns : goal.returns
returns c = path_law
