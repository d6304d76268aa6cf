use Rattle.pass_graph.proofs.laws.duplicates_lose_nothing.Goals as goal
use Rattle.pass_graph.proofs.Repeating.{duplicate_law}

pub returns : goal.returns
returns c = duplicate_law
