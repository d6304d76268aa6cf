use Rattle.pass_range.proofs.laws.blocks.Goals as goal
use Rattle.pass_range.proofs.Proved.{has_row_proved, before_proved, zero_proved}

pub returns-clause-has : goal.returns-clause-has
returns-clause-has c = has_row_proved

pub returns-clause-before : goal.returns-clause-before
returns-clause-before c = before_proved

pub returns-clause-zero : goal.returns-clause-zero
returns-clause-zero c = zero_proved
