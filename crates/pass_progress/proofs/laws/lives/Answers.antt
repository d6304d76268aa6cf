use Rattle.pass_progress.proofs.Rests.{newborn_law}
use Rattle.pass_progress.proofs.Bearing.{childless_law}
use Rattle.pass_progress.proofs.Births.{birth_law}
use Rattle.pass_progress.proofs.Exits.{exit_law}
use Rattle.pass_progress.proofs.laws.lives.Goals as goal

pub returns-clause-birth : goal.returns-clause-birth
returns-clause-birth c = birth_law

pub returns-clause-newborn : goal.returns-clause-newborn
returns-clause-newborn c = newborn_law

pub returns-clause-exit : goal.returns-clause-exit
returns-clause-exit c = exit_law

pub returns-clause-childless : goal.returns-clause-childless
returns-clause-childless c = childless_law
