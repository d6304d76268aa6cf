use Rattle.pass_standby.proofs.Unopened.{not_good}
use Rattle.pass_standby.proofs.laws.bad_log.Goals as goal

pub returns : goal.returns
returns c = not_good
