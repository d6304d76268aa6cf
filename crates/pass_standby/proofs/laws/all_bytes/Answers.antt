use Rattle.pass_standby.proofs.Taking.{all_taken}
use Rattle.pass_standby.proofs.laws.all_bytes.Goals as goal

pub returns : goal.returns
returns c = all_taken
