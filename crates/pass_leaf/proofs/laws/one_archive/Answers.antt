use Rattle.pass_leaf.proofs.Unique.{one_archive, no_bad_frame}
use Rattle.pass_leaf.proofs.laws.one_archive.Goals as goal

pub returns-clause-one : goal.returns-clause-one
returns-clause-one c = one_archive

pub returns-clause-no_bad : goal.returns-clause-no_bad
returns-clause-no_bad c = no_bad_frame
