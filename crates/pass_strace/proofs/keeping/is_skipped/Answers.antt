use Rattle.std.proofs.Common.{eqb-true}
use Rattle.pass_strace.proofs.Walking.{is_listed}
use Rattle.pass_strace.proofs.keeping.is_skipped.Goals as goal

pub returns-then-place-skipped : goal.returns-then-place-skipped
returns-then-place-skipped c told = is_listed c.args.skipped.now c.args.place _ c.args.number c.if-place-skipped.true (eqb-true _ _ told)
