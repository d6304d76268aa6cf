use Rattle.pass_session.proofs.Raised.{ceiling_law}
use Rattle.pass_session.proofs.laws.ceilings.Goals as goal

pub returns : goal.returns
returns c = ceiling_law
