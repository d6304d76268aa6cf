use Rattle.pass_shared.proofs.Refusals.{freeze_asks}
use Rattle.pass_shared.proofs.flows.pass_freeze.Goals as goal

pub refused-requires-clause-some : goal.refused-requires-clause-some
refused-requires-clause-some g c = freeze_asks c.args.fd c.requires.fd
