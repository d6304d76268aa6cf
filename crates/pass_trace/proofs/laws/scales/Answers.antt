use Rattle.pass_trace.proofs.Wider.{wider_law}
use Rattle.pass_trace.proofs.laws.scales.Goals as goal

pub returns : goal.returns
returns c = wider_law
