use Rattle.pass_graph.proofs.laws.prefixes.Goals as goal
use Rattle.pass_graph.proofs.Prefixing.{prefix_law}

pub returns : goal.returns
returns c = prefix_law
