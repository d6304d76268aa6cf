use Rattle.pass_outside.specs.Runs.{run_failed, run_two}
use Rattle.pass_outside.proofs.synced.sync_both.Goals as goal

pub returns-in_err-sync-clause-run : goal.returns-in_err-sync-clause-run
returns-in_err-sync-clause-run g c = run_failed _ c.sync.result _ c.from_residual.result c.sync.ensures.call (c.in_err-sync.was) c.from_residual.ensures.0 c.sync.ensures.crash

pub returns-clause-run : goal.returns-clause-run
returns-clause-run g c = run_two _ c.sync.result _ c.sync-2.result c.sync.ensures.call c.in_ok-sync.was c.sync-2.ensures.call c.sync.ensures.crash (λ image may. c.sync.ensures.crash image (c.sync-2.ensures.crash image may))
