use Rattle.pass_shared.proofs.Refusals.{disclose_asks}
use Rattle.pass_shared.proofs.disclosing.disclose.Goals as goal

pub refused-requires-clause-some : goal.refused-requires-clause-some
refused-requires-clause-some g c = disclose_asks c.args.fd c.args.source c.requires.fds
