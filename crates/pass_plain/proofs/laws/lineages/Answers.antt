use Rattle.pass_plain.proofs.laws.lineages.Goals as goal
use Rattle.pass_plain.proofs.Lineages.{lineage_law}

pub returns : goal.returns
returns c = lineage_law
