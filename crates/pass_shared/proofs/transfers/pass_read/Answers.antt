use Rattle.pass_shared.proofs.Refusals.{read_asks}
use Rattle.pass_shared.proofs.transfers.pass_read.Goals as goal

pub refused-requires-clause-some : goal.refused-requires-clause-some
refused-requires-clause-some g c = read_asks c.args.fd c.args.len c.requires.fd c.requires.len
