use Rattle.std.proofs.Common.{rules, IsTrue, IsOk, IsErr, refl, sym, ap, subst}
use Rattle.pass_log.proofs.Append.{store_one, store_both}
use Rattle.pass_leaf.specs.declared.fault.OldFault.TheVariants as faults
use Rattle.pass_leaf.proofs.Appending.{first_failed, second_failed, both_done}
use Rattle.pass_leaf.proofs.tail.Tail.append.Goals as goal

pub returns-in-Err-clause-appended : goal.returns-in-Err-clause-appended
returns-in-Err-clause-appended g c = λ leaves gathered ends b are.
    let view = g.D.Disk.view in
    let e = c.write_synced.ensures in
    first_failed (view c.args.disk.now) c.args.self.now leaves gathered c.args.frames.now ends b are c.requires.healthy c.requires.room (view c.write_synced.new.disk) c.write_synced.result faults.DiskFault
    (λ h. ap view (e.stands h)) e.crash e.run (subst IsErr (sym c.in-Err.is) refl)

pub returns-in-Err-write_synced-clause-appended : goal.returns-in-Err-write_synced-clause-appended
returns-in-Err-write_synced-clause-appended g c = λ leaves gathered ends b are.
    let view = g.D.Disk.view in
    let e = c.in_default.ensures in
    let f = c.write_synced-2.ensures in
    second_failed (view c.args.disk.now) c.args.self.now leaves gathered c.args.frames.now ends b are c.requires.healthy c.requires.room (view c.write_synced.new.disk) (view c.write_synced-2.new.disk) c.write_synced.result c.write_synced-2.result
    e.written e.durable c.write_synced.ensures.run (subst IsOk (sym c.in_default.is) refl) f.crash f.run faults.DiskFault (subst IsErr (sym c.in-Err-write_synced.is) refl)

pub returns-clause-appended : goal.returns-clause-appended
returns-clause-appended g c = λ leaves gathered ends b are.
    let view = g.D.Disk.view in
    let e = c.in_default.ensures in
    let f = c.write_synced-2.ensures in
    let l = c.in_default-write_synced.ensures in
    both_done (view c.args.disk.now) c.args.self.now leaves gathered c.args.frames.now ends b are c.requires.healthy c.requires.room (view c.write_synced.new.disk) (view c.write_synced-2.new.disk) c.write_synced.result c.write_synced-2.result
    e.written e.durable c.write_synced.ensures.run (subst IsOk (sym c.in_default.is) refl) f.crash f.run _ (search rules) (search rules)
    (λ tells. l.written (subst IsTrue (sym c.write_synced.ensures.run.tells) tells)) l.durable tt

pub returns-in-Err-clause-store : goal.returns-in-Err-clause-store
returns-in-Err-clause-store g c =
    let e = c.write_synced.ensures in
    store_one (g.D.Disk.view c.args.disk.now) (g.D.Disk.view c.write_synced.new.disk) _ e.elsewhere e.crash e.run.adds

pub returns-in-Err-write_synced-clause-store : goal.returns-in-Err-write_synced-clause-store
returns-in-Err-write_synced-clause-store g c =
    let one = c.write_synced.ensures in
    let two = c.write_synced-2.ensures in
    store_both (g.D.Disk.view c.args.disk.now) (g.D.Disk.view c.write_synced.new.disk) (g.D.Disk.view c.write_synced-2.new.disk) _ _ one.run.tells one.elsewhere two.elsewhere one.crash two.crash one.run.adds two.run.adds

pub returns-clause-store : goal.returns-clause-store
returns-clause-store g c =
    let one = c.write_synced.ensures in
    let two = c.write_synced-2.ensures in
    store_both (g.D.Disk.view c.args.disk.now) (g.D.Disk.view c.write_synced.new.disk) (g.D.Disk.view c.write_synced-2.new.disk) _ _ one.run.tells one.elsewhere two.elsewhere one.crash two.crash one.run.adds two.run.adds
