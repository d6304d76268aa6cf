use Rattle.pass_standby.proofs.Coming.{followed-append}
use Rattle.pass_standby.proofs.laws.cuts.Goals as goal

pub returns : goal.returns
returns c = followed-append
