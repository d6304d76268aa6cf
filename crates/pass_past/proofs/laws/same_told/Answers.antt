use Rattle.pass_past.proofs.AsTold.{same_told}
use Rattle.pass_past.proofs.laws.same_told.Goals as goal

pub returns : goal.returns
returns c = same_told
