use Rattle.pass_pipe.proofs.OnePipe.{step_law, fault_law, others_law}
use Rattle.pass_pipe.proofs.laws.one_pipe.Goals as goal

pub returns-clause-steps : goal.returns-clause-steps
returns-clause-steps c = step_law

pub returns-clause-faults : goal.returns-clause-faults
returns-clause-faults c = fault_law

pub returns-clause-others : goal.returns-clause-others
returns-clause-others c = others_law
