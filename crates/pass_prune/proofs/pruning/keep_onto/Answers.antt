use Rattle.pass_prune.specs.Openings.{IsOpened}
use Rattle.pass_prune.specs.Prunings.{chosen_of}
use Rattle.pass_prune.specs.Tables.{is_chosen_by}
use Rattle.pass_prune.proofs.Ends.{kept_onto, kept_work}
use Rattle.pass_prune.proofs.pruning.keep_onto.Goals as goal

pub returns-in-Ok-clause-onto : goal.returns-in-Ok-clause-onto
returns-in-Ok-clause-onto g c =
    let e = c.in-Ok.ensures in
    let opened : IsOpened g.F.Disk.view c.args.fresh c.in-Ok.old = record { leaves = e.leaves; none_gathered = e.gathered; counted = e.opened; work = e.work; moments = e.any_moment; store = e.store } in
    kept_onto g.F.Disk.view (chosen_of (is_chosen_by c.args.choice.now) c.args.choice.now.leaves.now) c.args.fresh c.keep_in.result.fresh c.in-Ok.old opened e.unwritten c.keep_in.result.result c.keep_in.ensures

pub returns-in-Ok-clause-work : goal.returns-in-Ok-clause-work
returns-in-Ok-clause-work g c =
    let e = c.in-Ok.ensures in
    let opened : IsOpened g.F.Disk.view c.args.fresh c.in-Ok.old = record { leaves = e.leaves; none_gathered = e.gathered; counted = e.opened; work = e.work; moments = e.any_moment; store = e.store } in
    kept_work g.F.Disk.view (chosen_of (is_chosen_by c.args.choice.now) c.args.choice.now.leaves.now) c.args.fresh c.keep_in.result.fresh c.in-Ok.old opened c.keep_in.result.result c.keep_in.ensures
