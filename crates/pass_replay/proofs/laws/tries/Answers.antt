use Rattle.pass_replay.proofs.Trying.{tries_law}
use Rattle.pass_replay.proofs.laws.tries.Goals as goal

pub returns : goal.returns
returns c = tries_law
