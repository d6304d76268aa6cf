use Rattle.std.proofs.Common.{◌≡◌, length, subst, arith}
use Rattle.pass_report.specs.Recorders.{HasPassed}
use Rattle.pass_report.proofs.reporting.record.Goals as goal

pub note-requires-clause-known : goal.note-requires-clause-known
note-requires-clause-known c = let (session, from) = c.requires in (session, from, c.loop-place.invariant session from)

pub returns : goal.returns
returns c = λ session from.
    subst (λ n. HasPassed c.args.start.now session c.args.history.now n c.loop-place.recorder)
    (let z : c.loop-place.place ≡ length c.args.history.now = omega arith in z) (c.loop-place.invariant session from)
