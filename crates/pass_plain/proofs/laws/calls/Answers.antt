use Rattle.pass_plain.proofs.Going.{next_step_law, begun_law, step_number_law}
use Rattle.pass_plain.proofs.laws.calls.Goals as goal

pub returns-clause-next : goal.returns-clause-next
returns-clause-next c = next_step_law

pub returns-clause-made : goal.returns-clause-made
returns-clause-made c = begun_law

pub returns-clause-number : goal.returns-clause-number
returns-clause-number c = step_number_law
