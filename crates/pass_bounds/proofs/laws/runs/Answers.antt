use Rattle.pass_bounds.proofs.RunCalls.{run_law, frame_law}
use Rattle.pass_bounds.proofs.laws.runs.Goals as goal

pub returns-clause-lengths : goal.returns-clause-lengths
returns-clause-lengths c = run_law

pub returns-clause-frame : goal.returns-clause-frame
returns-clause-frame c = frame_law c.lists.ensures.ceiling c.lists.ensures.versions
