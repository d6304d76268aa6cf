use Rattle.pass_safe.proofs.Clean.{still_clean, untouched_law}
use Rattle.pass_safe.proofs.Owned.{owner_law}
use Rattle.pass_safe.proofs.laws.settled.Goals as goal

pub returns-clause-owners : goal.returns-clause-owners
returns-clause-owners c = owner_law

pub returns-clause-stays : goal.returns-clause-stays
returns-clause-stays c = still_clean

pub returns-clause-untouched : goal.returns-clause-untouched
returns-clause-untouched c = untouched_law
