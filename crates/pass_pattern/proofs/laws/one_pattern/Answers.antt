use Rattle.pass_pattern.proofs.Accepting.{one_pattern_law}
use Rattle.pass_pattern.proofs.laws.one_pattern.Goals as goal

pub returns : goal.returns
returns c = one_pattern_law
