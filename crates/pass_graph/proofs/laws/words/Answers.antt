use Rattle.pass_graph.proofs.laws.words.Goals as goal
use Rattle.pass_graph.proofs.Wording.{words_law}

pub returns : goal.returns
returns c = words_law
