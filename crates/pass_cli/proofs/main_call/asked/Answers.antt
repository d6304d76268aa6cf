use Rattle.pass_run.proofs.Moved.{none_backed}
use Rattle.pass_cli.proofs.main_call.asked.Goals as goal

pub returns-clause-backed : goal.returns-clause-backed
returns-clause-backed g c = none_backed c.new.result.items c.new-2.result.items c.new.ensures.items
