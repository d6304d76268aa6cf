use Rattle.pass_trace.proofs.Created.{objects_law}
use Rattle.pass_trace.proofs.laws.traces.Goals as goal

pub returns : goal.returns
returns c = objects_law
