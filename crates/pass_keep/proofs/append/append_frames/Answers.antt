use Rattle.std.proofs.Common.{◌≡◌, ◌∙◌, ◌+◌, ◌≤◌, ℕ, List, Vec, get_or, length, sym, ap, subst, arith}
use Rattle.std.specs.declared.alloc.Global.{Global}
use Rattle.pass_outside.specs.Moments.{IsAtEnd}
use Rattle.pass_log.specs.Log.{IsFrameOf}
use Rattle.pass_log.proofs.Append.{leaves_more}
use Rattle.pass_keep.specs.Parts.{bytes_length, KeepsStill}
use Rattle.pass_keep.proofs.Appending.{partly_more, partly_failed, partly_all, place_more}
use Rattle.pass_keep.proofs.append.append_frames.Goals as goal
use Rattle.pass_entry.proofs.Variants.{err_always}

pub returns-in_err-append_frame-clause-err : goal.returns-in_err-append_frame-clause-err
returns-in_err-append_frame-clause-err g c =
    let view = g.D.Disk.view in
    let frames : List (Vec ℕ Global) = c.args.frames.now in
    let i = c.loop-frame.frame-index in
    let frame : Vec ℕ Global = c.frame-item.result in
    let inv = c.loop-frame.invariant in
    let e = c.append_frame.ensures in
    let old = view c.args.disk.now in
    let mid = view c.loop-frame.disk in
    let disk = c.append_frame.new.disk in
    let log = c.loop-frame.log in
    let same : (get_or frames i frame).items ≡ c.deref.result.now = ap (λ (f : Vec ℕ Global). f.items) (sym c.frame-item.is) ∙ sym c.deref.ensures.value in
    let healthy : mid.faults ≤ log.opened = omega (arith, inv.healthy, inv.opened, c.requires.healthy) in
    let whole = partly_failed frames old mid (view disk) c.args.log.now log c.append_frame.new.self i frame c.loop-frame-test.true inv.partly
    (λ x may. g.met.D.Disk.counts_now c.loop-frame.disk mid.calls x (omega arith) may) (λ t u x le left. g.met.D.Disk.counts_more disk t u x le left)
    e.work.tells e.store.moments e.settled (λ batch is told. e.any_moment batch (subst (IsFrameOf batch) same is) told)
    c.in_err-append_frame.ensures.err healthy (λ ended. ap view (e.stands ended)) (c.in_err-append_frame.ensures.unbroken healthy).1 in
    err_always c.from_residual.result (KeepsStill frames old c.args.log.now (view disk) c.append_frame.new.self) whole

pub returns-in_err-append_frame-clause-store : goal.returns-in_err-append_frame-clause-store
returns-in_err-append_frame-clause-store g c =
    let view = g.D.Disk.view in
    let inv = c.loop-frame.invariant in
    leaves_more (view c.args.disk.now) (view c.loop-frame.disk) (view c.append_frame.new.disk) inv.tells inv.store c.append_frame.ensures.store

pub loop-frame-preserved : goal.loop-frame-preserved
loop-frame-preserved g c =
    let view = g.D.Disk.view in
    let frames : List (Vec ℕ Global) = c.args.frames.now in
    let i = c.loop-frame.frame-index in
    let frame : Vec ℕ Global = c.frame-item.result in
    let inv = c.loop-frame.invariant in
    let e = c.append_frame.ensures in
    let done = c.in_ok-append_frame.ensures in
    let old = view c.args.disk.now in
    let mid = view c.loop-frame.disk in
    let disk = c.append_frame.new.disk in
    let log = c.loop-frame.log in
    let same : (get_or frames i frame).items ≡ c.deref.result.now = ap (λ (f : Vec ℕ Global). f.items) (sym c.frame-item.is) ∙ sym c.deref.ensures.value in
    record {
      partly = partly_more frames old mid (view disk) c.args.log.now log c.append_frame.new.self i frame c.loop-frame-test.true inv.partly
          (λ x may. g.met.D.Disk.counts_now c.loop-frame.disk mid.calls x (omega arith) may) (λ t u x le left. g.met.D.Disk.counts_more disk t u x le left)
          e.work.tells e.store.moments e.settled (λ batch is told. e.any_moment batch (subst (IsFrameOf batch) same is) told)
          done.healthy.0 done.healthy.2 (λ batch is told. done.reads batch (subst (IsFrameOf batch) same is) told)
          (λ batch is told x may. done.acknowledged batch (subst (IsFrameOf batch) same is) told x may) e.store.at_once c.calls-calls.ensures.now;
      settled = e.settled;
      opened = e.opened ∙ inv.opened;
      healthy = let one = done.healthy in omega (arith, one.0, one.1, inv.healthy);
      place = place_more frames i frame c.loop-frame-test.true log.end c.append_frame.new.self.end (c.args.log.now.end + bytes_length frames) inv.place
          (done.end ∙ ap (λ l. log.end + length l) (sym same));
      calls = omega (arith, done.calls, inv.calls);
      stands = λ ended. absurd (done.healthy.2 (subst (λ d. IsAtEnd (view d)) (sym (inv.stands ended).0) ended));
      store = leaves_more old mid (view disk) inv.tells inv.store e.store;
      tells = e.work.tells ∙ inv.tells;
    }

pub returns-clause-kept : goal.returns-clause-kept
returns-clause-kept g c =
    partly_all c.args.frames.now (g.D.Disk.view c.args.disk.now) (g.D.Disk.view c.loop-frame.disk) c.args.log.now c.loop-frame.log c.loop-frame.frame-index c.loop-frame-test.false c.loop-frame.invariant.partly
