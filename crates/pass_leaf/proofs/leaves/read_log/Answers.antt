use Rattle.pass_leaf.proofs.Walks.{unread_as}
use Rattle.pass_leaf.proofs.Answering.{work_read_ok, work_read_err}
use Rattle.pass_leaf.proofs.leaves.read_log.Goals as goal

pub returns-in-Ok-clause-work : goal.returns-in-Ok-clause-work
returns-in-Ok-clause-work g c = work_read_ok (g.D.Disk.view c.args.disk.now) (g.D.Disk.view c.read_bytes.new.disk) c.in-Ok.bytes c.in-Ok.bytes c.in-Ok.ensures.work

pub returns-in-Err-clause-fault : goal.returns-in-Err-clause-fault
returns-in-Err-clause-fault g c =
    let e = c.unread.ensures in
    unread_as (g.D.Disk.view c.args.disk.now) c.in-Err.fault c.unread.result e.device e.frame e.memory c.in-Err.ensures.fault

pub returns-in-Err-clause-work : goal.returns-in-Err-clause-work
returns-in-Err-clause-work g c =
    let e = c.unread.ensures in
    work_read_err (g.D.Disk.view c.args.disk.now) (g.D.Disk.view c.read_bytes.new.disk) c.in-Err.fault c.unread.result e.device e.device_alone c.in-Err.ensures.work
