use Rattle.pass_trace.proofs.Faults.{text_or_fault, not_text-from_fault, same_fault}
use Rattle.pass_trace.proofs.laws.text_or_one_fault.Goals as goal

pub returns-clause-either : goal.returns-clause-either
returns-clause-either c = text_or_fault

pub returns-clause-apart : goal.returns-clause-apart
returns-clause-apart c = not_text-from_fault

pub returns-clause-alone : goal.returns-clause-alone
returns-clause-alone c = same_fault
