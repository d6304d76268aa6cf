use Rattle.pass_leaf.proofs.Keeps.{contents_stay, kept_again, others_stay}
use Rattle.pass_leaf.proofs.laws.kept.Goals as goal

pub returns-clause-stays : goal.returns-clause-stays
returns-clause-stays c = contents_stay

pub returns-clause-kept : goal.returns-clause-kept
returns-clause-kept c = kept_again

pub returns-clause-others : goal.returns-clause-others
returns-clause-others c = others_stay
