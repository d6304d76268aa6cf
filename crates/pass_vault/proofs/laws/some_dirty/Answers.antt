use Rattle.pass_vault.proofs.Putting.{some_dirty_law}
use Rattle.pass_vault.proofs.laws.some_dirty.Goals as goal

pub returns : goal.returns
returns c = some_dirty_law
