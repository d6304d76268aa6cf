use Rattle.pass_hold.proofs.Goings.{still_law, look_law, add_law}
use Rattle.pass_hold.proofs.laws.calls.Goals as goal

pub returns-clause-still : goal.returns-clause-still
returns-clause-still c = still_law

pub returns-clause-look : goal.returns-clause-look
returns-clause-look c = look_law

pub returns-clause-add : goal.returns-clause-add
returns-clause-add c = add_law
