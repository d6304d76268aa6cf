use Rattle.pass_leaf.proofs.Laying.{laid_again}
use Rattle.pass_leaf.proofs.laws.laid.Goals as goal

pub returns : goal.returns
returns c = laid_again
