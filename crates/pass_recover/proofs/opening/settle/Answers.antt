use Rattle.std.proofs.Common.{refl, ap, sym, subst}
use Rattle.std.specs.Prelude.{IsOk, IsErr}
use Rattle.pass_outside.specs.Runs.{run_failed}
use Rattle.pass_recover.proofs.Settled.{first_failed, second_failed}
use Rattle.pass_recover.proofs.opening.settle.Goals as goal

pub returns-in_err-sync-clause-run : goal.returns-in_err-sync-clause-run
returns-in_err-sync-clause-run g c = run_failed _ c.sync.result _ c.from_residual.result c.sync.ensures.call c.in_err-sync.was c.from_residual.ensures.0 c.sync.ensures.crash

pub returns-in_err-sync-clause-early : goal.returns-in_err-sync-clause-early
returns-in_err-sync-clause-early g c = λ _.
    let view = g.D.Disk.view in
    first_failed (view c.args.disk.now) (view c.sync.new.self) c.sync.result c.sync.ensures.call (subst IsErr (sym c.in_err-sync.was) refl)
    (λ end. (ap (λ d. (view d).calls) (c.sync.ensures.stands end), ap (λ d. (view d).faults) (c.sync.ensures.stands end)))

pub returns-in_err-sync-2-clause-early : goal.returns-in_err-sync-2-clause-early
returns-in_err-sync-2-clause-early g c = λ _.
    let view = g.D.Disk.view in
    second_failed (view c.args.disk.now) (view c.sync.new.self) (view c.sync-2.new.self) c.sync.result c.sync-2.result c.sync.ensures.call (subst IsOk (sym c.in_ok-sync.was) refl)
    c.sync-2.ensures.call (subst IsErr (sym c.in_err-sync-2.was) refl)
    (λ end. (ap (λ d. (view d).calls) (c.sync-2.ensures.stands end), ap (λ d. (view d).faults) (c.sync-2.ensures.stands end)))
