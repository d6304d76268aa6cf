use Rattle.std.proofs.Common.{IsTrue, sym, subst}
use Rattle.std.proofs.lemmas.Result.{IfOk-weaker}
use Rattle.pass_log.specs.Log.{log_end}
use Rattle.pass_standby.specs.Standing.{log_to, Reads}
use Rattle.pass_standby.proofs.Begins.{store_read, moments_both, bytes_both}
use Rattle.pass_standby.proofs.Keeping.{work_then}
use Rattle.pass_standby.proofs.opening.prepare.Goals as goal
use Rattle.pass_log.proofs.Append.{leaves_more}

pub returns-clause-any_moment : goal.returns-clause-any_moment
returns-clause-any_moment g c = λ told.
    let e = c.in_ok-found.ensures in
    moments_both (g.D.Disk.view c.args.disk.now) (g.D.Disk.view c.read_synced.new.disk) (g.D.Disk.view c.open_found.new.disk) e.content e.run
    (c.open_found.ensures.any_moment (subst IsTrue (sym e.work.tells) told))

pub returns-clause-bytes : goal.returns-clause-bytes
returns-clause-bytes g c =
    let old = g.D.Disk.view c.args.disk.now in
    let mid = g.D.Disk.view c.read_synced.new.disk in
    let new = g.D.Disk.view c.open_found.new.disk in
    IfOk-weaker c.open_found.result (λ o. Reads new (log_end o.log) (log_to mid (log_end o.log))) (λ o. Reads new (log_end o.log) (log_to old (log_end o.log)))
    (λ o reads. bytes_both old mid new (log_end o.log) c.in_ok-found.ensures.content reads) c.open_found.ensures.bytes

pub returns-clause-store : goal.returns-clause-store
returns-clause-store g c =
    let old = g.D.Disk.view c.args.disk.now in
    let mid = g.D.Disk.view c.read_synced.new.disk in
    let e = c.in_ok-found.ensures in
    leaves_more old mid (g.D.Disk.view c.open_found.new.disk) e.work.tells (store_read old mid e.store e.crash e.run) c.open_found.ensures.store

pub returns-clause-work : goal.returns-clause-work
returns-clause-work g c =
    work_then (g.D.Disk.view c.args.disk.now) (g.D.Disk.view c.read_synced.new.disk) (g.D.Disk.view c.open_found.new.disk) c.in_ok-found.ensures.work (λ err. absurd (cc)) c.open_found.ensures.work
