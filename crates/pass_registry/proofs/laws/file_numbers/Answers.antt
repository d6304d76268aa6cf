use Rattle.pass_registry.proofs.FileNumbers.{keep_law, next_law, own_law, below_law}
use Rattle.pass_registry.proofs.laws.file_numbers.Goals as goal

pub returns-clause-keeps : goal.returns-clause-keeps
returns-clause-keeps c = keep_law

pub returns-clause-next : goal.returns-clause-next
returns-clause-next c = next_law

pub returns-clause-own : goal.returns-clause-own
returns-clause-own c = own_law

pub returns-clause-below : goal.returns-clause-below
returns-clause-below c = below_law
