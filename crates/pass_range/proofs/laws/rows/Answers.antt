use Rattle.pass_range.proofs.laws.rows.Goals as goal
use Rattle.pass_range.proofs.Proved.{row_proved, step_proved, earlier_proved, quiet_proved, older_proved}

pub returns-clause-rows : goal.returns-clause-rows
returns-clause-rows c = row_proved

pub returns-clause-step : goal.returns-clause-step
returns-clause-step c = step_proved

pub returns-clause-earlier : goal.returns-clause-earlier
returns-clause-earlier c = earlier_proved

pub returns-clause-quiet : goal.returns-clause-quiet
returns-clause-quiet c = quiet_proved

pub returns-clause-older : goal.returns-clause-older
returns-clause-older c = older_proved
