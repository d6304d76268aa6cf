use Rattle.pass_hold.proofs.Goings.{left_law}
use Rattle.pass_hold.proofs.laws.places.Goals as goal

pub returns : goal.returns
returns c = left_law
