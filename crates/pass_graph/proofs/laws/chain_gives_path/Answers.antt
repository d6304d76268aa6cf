use Rattle.pass_graph.proofs.laws.chain_gives_path.Goals as goal
use Rattle.pass_graph.proofs.Proved.{chain_law}

pub returns : goal.returns
returns c = chain_law
