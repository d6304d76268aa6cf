use Rattle.pass_prune.proofs.Ends.{handed}
use Rattle.pass_prune.proofs.pruning.keep_in.Goals as goal

pub returns : goal.returns
returns g c =
    let last = c.keep_empty-result.new.old in
    (last, c.keep_empty-result.ensures, handed g.F.Disk.view last c.into_disk.result c.into_disk.ensures.disk c.into_disk.ensures.leaves)
