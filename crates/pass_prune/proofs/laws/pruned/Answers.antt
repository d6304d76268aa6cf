use Rattle.pass_prune.proofs.Alike.{pruned_has}
use Rattle.pass_prune.proofs.laws.pruned.Goals as goal

pub returns : goal.returns
returns c = pruned_has c.kept.ensures.kept c.kept.ensures.others
