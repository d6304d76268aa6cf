use Rattle.pass_standby.proofs.Lawful.{grows}
use Rattle.pass_standby.proofs.laws.growing.Goals as goal

pub returns : goal.returns
returns c = grows
