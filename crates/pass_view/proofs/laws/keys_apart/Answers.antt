use Rattle.pass_view.proofs.Keys.{apart}
use Rattle.pass_view.proofs.laws.keys_apart.Goals as goal

pub returns : goal.returns
returns c = apart
