use Rattle.pass_shared.proofs.Refusals.{tag_asks}
use Rattle.pass_shared.proofs.flows.tag.Goals as goal

pub refused-requires-clause-some : goal.refused-requires-clause-some
refused-requires-clause-some g c = tag_asks c.args.fd c.args.attr.now c.args.value.now c.requires.fd c.requires.names
