use Rattle.pass_standby.proofs.Framing.{whole_frame}
use Rattle.pass_standby.proofs.laws.whole_frames.Goals as goal

pub returns : goal.returns
returns c = whole_frame
