use Rattle.std.proofs.Common.{◌≡◌, inl, inr, refl}
use Rattle.pass_leaf.specs.declared.fault.OldFault.TheVariants as faults
use Rattle.pass_old.proofs.Steps.{stop_node, later_work}
use Rattle.pass_old.proofs.running.kept_as.Goals as goal

pub returns-in-Ok-clause-kept : goal.returns-in-Ok-clause-kept
returns-in-Ok-clause-kept g c =
    let e = c.in-Ok.ensures in
    inl (record { is = refl; kept = e.kept; contents = e.contents; stays = e.stays; others = e.others })

pub unread-requires : goal.unread-requires
unread-requires g c =
    let s = c.in-Err.ensures.stopped c.requires.healthy in
    stop_node c.keep.new.old.leaves c.keep.new.old.end s.rest c.in-Err.fault s.cause

pub returns-in-Err-clause-kept : goal.returns-in-Err-clause-kept
returns-in-Err-clause-kept g c =
    let e = c.in-Err.ensures in
    inr (record { fault = c.in-Err.fault; is = c.unread.ensures.status; stopped = e.stopped c.requires.healthy; stays = e.stays })

pub returns-in-Ok-clause-later : goal.returns-in-Ok-clause-later
returns-in-Ok-clause-later g c = later_work (g.A.Disk.view c.args.old.now.disk) (g.A.Disk.view c.keep.new.old.disk) ⊥ c.in-Ok.ensures.kept.work

pub returns-in-Err-clause-later : goal.returns-in-Err-clause-later
returns-in-Err-clause-later g c =
    let s = c.in-Err.ensures.stopped c.requires.healthy in
    later_work (g.A.Disk.view c.args.old.now.disk) (g.A.Disk.view c.keep.new.old.disk) (c.in-Err.fault ≡ faults.DiskFault) s.work
