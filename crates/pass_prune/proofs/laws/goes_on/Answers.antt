use Rattle.pass_prune.proofs.Going.{goes_on}
use Rattle.pass_prune.proofs.laws.goes_on.Goals as goal

pub returns : goal.returns
returns c = goes_on c.laid.ensures
