use Rattle.pass_reference.proofs.States.{legal_before}
use Rattle.pass_reference.proofs.cache.caller_with.Goals as goal

pub take_caller-requires-clause-lawful : goal.take_caller-requires-clause-lawful
take_caller-requires-clause-lawful c = legal_before c.args.history.now c.args.e.now c.args.who c.requires.lawful
