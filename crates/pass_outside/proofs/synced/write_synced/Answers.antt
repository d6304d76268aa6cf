use Rattle.pass_outside.specs.Runs.{run_failed, run_two}
use Rattle.pass_outside.proofs.synced.write_synced.Goals as goal

pub returns-in_err-write_at-clause-run : goal.returns-in_err-write_at-clause-run
returns-in_err-write_at-clause-run g c = run_failed _ c.write_at.result _ c.from_residual.result c.write_at.ensures.call (c.in_err-write_at.was) c.from_residual.ensures.0 c.write_at.ensures.crash

pub returns-clause-crash : goal.returns-clause-crash
returns-clause-crash g c = λ image may. c.write_at.ensures.crash image (c.sync.ensures.crash image may)

pub returns-clause-run : goal.returns-clause-run
returns-clause-run g c = run_two _ c.write_at.result _ c.sync.result c.write_at.ensures.call c.in_ok-write_at.was c.sync.ensures.call c.write_at.ensures.crash (λ image may. c.write_at.ensures.crash image (c.sync.ensures.crash image may))
