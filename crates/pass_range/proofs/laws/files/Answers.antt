use Rattle.pass_range.proofs.laws.files.Goals as goal
use Rattle.pass_range.proofs.Proved.{size_proved, files_proved, number_proved, numbers_proved, logged_row_proved}

pub returns-clause-sizes : goal.returns-clause-sizes
returns-clause-sizes c = size_proved

pub returns-clause-files : goal.returns-clause-files
returns-clause-files c = files_proved

pub returns-clause-number : goal.returns-clause-number
returns-clause-number c = number_proved

pub returns-clause-numbers : goal.returns-clause-numbers
returns-clause-numbers c = numbers_proved

pub returns-clause-well_logged : goal.returns-clause-well_logged
returns-clause-well_logged c = logged_row_proved
