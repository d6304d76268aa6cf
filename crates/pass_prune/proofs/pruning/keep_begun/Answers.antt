use Rattle.pass_past.proofs.Goings.{kept_none}
use Rattle.pass_prune.proofs.pruning.keep_begun.Goals as goal

pub keep_chosen-requires : goal.keep_chosen-requires
keep_chosen-requires g c = record { begun = kept_none g.F.Disk.view c.args.old.now c.requires.begun c.in_default.ensures.ok c.check.ensures.leaves c.check.ensures.since }
