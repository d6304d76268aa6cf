use Rattle.pass_standby.proofs.Coming.{bad_stays}
use Rattle.pass_standby.proofs.laws.bad_frames.Goals as goal

pub returns : goal.returns
returns c = bad_stays
