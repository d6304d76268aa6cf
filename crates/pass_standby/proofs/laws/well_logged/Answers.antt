use Rattle.pass_standby.proofs.Lawful.{stays_logged}
use Rattle.pass_standby.proofs.laws.well_logged.Goals as goal

pub returns : goal.returns
returns c = stays_logged
