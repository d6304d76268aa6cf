use Rattle.std.proofs.Common.{◌≡◌, ◌≤◌, IsTrue, IsOk, IsErr, inl, refl, sym, ◌∙◌, ap, subst, arith}
use Rattle.pass_outside.specs.Runs.{adds_weaker}
use Rattle.pass_log.specs.Log.{IsBeforeOrAfter}
use Rattle.pass_log.proofs.Append.{staged_moments, both_moments, settled_failed, stands_again, new_image, new_bytes, new_reads, store_one, store_both}
use Rattle.pass_log.proofs.log.Log.write_frame.Goals as goal

pub returns-in_err-write_synced-clause-any_moment : goal.returns-in_err-write_synced-clause-any_moment
returns-in_err-write_synced-clause-any_moment g c = λ tells.
    let old = g.D.Disk.view c.args.disk.now in
    let mid = g.D.Disk.view c.write_synced.new.disk in
    let healthy : old.faults ≤ c.args.self.now.opened = omega (arith, c.requires.healthy) in
    adds_weaker (λ i. IsBeforeOrAfter c.args.frame.now c.args.self.now.end old.seen.log i.log) old mid
    (staged_moments c.args.self.now old mid c.args.frame.now c.requires.settled healthy c.requires.room tells (λ h. ap g.D.Disk.view (c.write_synced.ensures.stands h)) c.write_synced.ensures.run.adds)
    (λ i x. inl x)

pub returns-in_err-write_synced-clause-settled : goal.returns-in_err-write_synced-clause-settled
returns-in_err-write_synced-clause-settled g c =
    let old = g.D.Disk.view c.args.disk.now in
    let failed : IsErr c.write_synced.result = subst IsErr (sym c.in_err-write_synced.was) refl in
    settled_failed c.args.self.now old old (g.D.Disk.view c.write_synced.new.disk) c.write_synced.result _ c.requires.settled (omega arith) c.write_synced.ensures.run failed

pub returns-in_err-write_synced-2-clause-any_moment : goal.returns-in_err-write_synced-2-clause-any_moment
returns-in_err-write_synced-2-clause-any_moment g c = λ tells.
    let old = g.D.Disk.view c.args.disk.now in
    let mid = g.D.Disk.view c.write_synced.new.disk in
    let new = g.D.Disk.view c.write_synced-2.new.disk in
    let healthy : old.faults ≡ c.args.self.now.opened = omega (arith, c.requires.healthy, c.requires.settled.opened) in
    let went : IsOk c.write_synced.result = subst IsOk (sym c.in_ok-write_synced.was) refl in
    let s = c.requires.settled.stands tells healthy (c.write_synced.ensures.run.ok went).1 in
    both_moments c.args.self.now old mid new c.args.frame.now s c.requires.room c.requires.staged (c.in_ok-write_synced.ensures.written tells) c.in_ok-write_synced.ensures.durable
    c.write_synced.ensures.run.adds c.write_synced-2.ensures.run.adds

pub returns-in_err-write_synced-2-clause-settled : goal.returns-in_err-write_synced-2-clause-settled
returns-in_err-write_synced-2-clause-settled g c =
    let old = g.D.Disk.view c.args.disk.now in
    let mid = g.D.Disk.view c.write_synced.new.disk in
    let failed : IsErr c.write_synced-2.result = subst IsErr (sym c.in_err-write_synced-2.was) refl in
    settled_failed c.args.self.now old mid (g.D.Disk.view c.write_synced-2.new.disk) c.write_synced-2.result _ c.requires.settled c.write_synced.ensures.run.rises c.write_synced-2.ensures.run failed

pub returns-clause-any_moment : goal.returns-clause-any_moment
returns-clause-any_moment g c = λ tells.
    let old = g.D.Disk.view c.args.disk.now in
    let mid = g.D.Disk.view c.write_synced.new.disk in
    let new = g.D.Disk.view c.write_synced-2.new.disk in
    let healthy : old.faults ≡ c.args.self.now.opened = omega (arith, c.requires.healthy, c.requires.settled.opened) in
    let went : IsOk c.write_synced.result = subst IsOk (sym c.in_ok-write_synced.was) refl in
    let s = c.requires.settled.stands tells healthy (c.write_synced.ensures.run.ok went).1 in
    both_moments c.args.self.now old mid new c.args.frame.now s c.requires.room c.requires.staged (c.in_ok-write_synced.ensures.written tells) c.in_ok-write_synced.ensures.durable
    c.write_synced.ensures.run.adds c.write_synced-2.ensures.run.adds

pub returns-clause-acknowledged : goal.returns-clause-acknowledged
returns-clause-acknowledged g c = λ tells.
    let old = g.D.Disk.view c.args.disk.now in
    let mid = g.D.Disk.view c.write_synced.new.disk in
    let new = g.D.Disk.view c.write_synced-2.new.disk in
    let healthy : old.faults ≡ c.args.self.now.opened = omega (arith, c.requires.healthy, c.requires.settled.opened) in
    let went : IsOk c.write_synced.result = subst IsOk (sym c.in_ok-write_synced.was) refl in
    let s = c.requires.settled.stands tells healthy (c.write_synced.ensures.run.ok went).1 in
    let mid_tells : IsTrue mid.tells = subst IsTrue (sym c.write_synced.ensures.run.tells) tells in
    new_image c.args.self.now old s c.args.frame.now c.requires.room mid c.requires.staged (c.in_ok-write_synced.ensures.written tells) c.in_ok-write_synced.ensures.durable
    new (c.in_ok-write_synced-2.ensures.written mid_tells) c.in_ok-write_synced-2.ensures.durable

pub returns-clause-settled : goal.returns-clause-settled
returns-clause-settled g c =
    let old = g.D.Disk.view c.args.disk.now in
    let mid = g.D.Disk.view c.write_synced.new.disk in
    let new = g.D.Disk.view c.write_synced-2.new.disk in
    let healthy : old.faults ≡ c.args.self.now.opened = omega (arith, c.requires.healthy, c.requires.settled.opened) in
    let went : IsOk c.write_synced.result = subst IsOk (sym c.in_ok-write_synced.was) refl in
    let opened : c.args.self.now.opened ≤ new.faults = omega (arith, c.requires.settled.opened, c.write_synced.ensures.run.rises, c.write_synced-2.ensures.run.rises) in
    record {
      opened = opened;
      stands = λ tells same not_end.
          let mid_tells : IsTrue mid.tells = sym c.write_synced-2.ensures.run.tells ∙ tells in
          let old_tells : IsTrue old.tells = sym c.write_synced.ensures.run.tells ∙ mid_tells in
          let s = c.requires.settled.stands old_tells healthy (c.write_synced.ensures.run.ok went).1 in
          stands_again c.args.self.now old s c.args.frame.now c.requires.room mid c.requires.staged (c.in_ok-write_synced.ensures.written old_tells) c.in_ok-write_synced.ensures.durable
          new (c.in_ok-write_synced-2.ensures.written mid_tells) c.in_ok-write_synced-2.ensures.durable;
    }

pub returns-clause-reads : goal.returns-clause-reads
returns-clause-reads g c = λ tells.
    let old = g.D.Disk.view c.args.disk.now in
    let mid = g.D.Disk.view c.write_synced.new.disk in
    let new = g.D.Disk.view c.write_synced-2.new.disk in
    let healthy : old.faults ≡ c.args.self.now.opened = omega (arith, c.requires.healthy, c.requires.settled.opened) in
    let went : IsOk c.write_synced.result = subst IsOk (sym c.in_ok-write_synced.was) refl in
    let s = c.requires.settled.stands tells healthy (c.write_synced.ensures.run.ok went).1 in
    let mid_tells : IsTrue mid.tells = subst IsTrue (sym c.write_synced.ensures.run.tells) tells in
    new_reads c.args.self.now old s c.args.frame.now c.requires.room mid c.requires.staged (c.in_ok-write_synced.ensures.written tells) c.in_ok-write_synced.ensures.durable
    new (c.in_ok-write_synced-2.ensures.written mid_tells) c.in_ok-write_synced-2.ensures.durable

pub returns-clause-bytes : goal.returns-clause-bytes
returns-clause-bytes g c = λ tells.
    let old = g.D.Disk.view c.args.disk.now in
    let mid = g.D.Disk.view c.write_synced.new.disk in
    let new = g.D.Disk.view c.write_synced-2.new.disk in
    let healthy : old.faults ≡ c.args.self.now.opened = omega (arith, c.requires.healthy, c.requires.settled.opened) in
    let went : IsOk c.write_synced.result = subst IsOk (sym c.in_ok-write_synced.was) refl in
    let s = c.requires.settled.stands tells healthy (c.write_synced.ensures.run.ok went).1 in
    let mid_tells : IsTrue mid.tells = subst IsTrue (sym c.write_synced.ensures.run.tells) tells in
    new_bytes c.args.self.now old s c.args.frame.now c.requires.room mid c.requires.staged (c.in_ok-write_synced.ensures.written tells) c.in_ok-write_synced.ensures.durable
    new (c.in_ok-write_synced-2.ensures.written mid_tells)

pub returns-clause-durable : goal.returns-clause-durable
returns-clause-durable g c = λ tells i may. c.in_ok-write_synced-2.ensures.durable i may

pub returns-in_err-write_synced-clause-store : goal.returns-in_err-write_synced-clause-store
returns-in_err-write_synced-clause-store g c =
    let e = c.write_synced.ensures in
    store_one (g.D.Disk.view c.args.disk.now) (g.D.Disk.view c.write_synced.new.disk) _ e.elsewhere e.crash e.run.adds

pub returns-in_err-write_synced-2-clause-store : goal.returns-in_err-write_synced-2-clause-store
returns-in_err-write_synced-2-clause-store g c =
    let one = c.write_synced.ensures in
    let two = c.write_synced-2.ensures in
    store_both (g.D.Disk.view c.args.disk.now) (g.D.Disk.view c.write_synced.new.disk) (g.D.Disk.view c.write_synced-2.new.disk) _ _ one.run.tells one.elsewhere two.elsewhere one.crash two.crash one.run.adds two.run.adds

pub returns-clause-store : goal.returns-clause-store
returns-clause-store g c =
    let one = c.write_synced.ensures in
    let two = c.write_synced-2.ensures in
    store_both (g.D.Disk.view c.args.disk.now) (g.D.Disk.view c.write_synced.new.disk) (g.D.Disk.view c.write_synced-2.new.disk) _ _ one.run.tells one.elsewhere two.elsewhere one.crash two.crash one.run.adds two.run.adds
