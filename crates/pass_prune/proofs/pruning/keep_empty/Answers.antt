use Rattle.std.proofs.Common.{refl, arith}
use Rattle.pass_prune.proofs.Ends.{counted_as, none_there}
use Rattle.pass_prune.proofs.pruning.keep_empty.Goals as goal

pub returns-then-count-gt0 : goal.returns-then-count-gt0
returns-then-count-gt0 g c =
    let old = c.args.old.now in
    (omega (arith, counted_as c.count.result old.leaves old.gathered c.count.ensures c.requires.begun, c.if-count-gt0.true), refl)

pub returns-in-Ok : goal.returns-in-Ok
returns-in-Ok g c =
    let old = c.args.old.now in
    let new = c.keep_begun.new.old in (
      none_there c.count.result old.leaves old.gathered c.count.ensures (omega (arith, c.if-count-gt0.false)),
      c.in-Ok.ensures.kept,
      counted_as c.count-in-Ok.result new.leaves new.gathered c.count-in-Ok.ensures c.in-Ok.ensures.kept.none_gathered,
    )

pub returns-in-Err : goal.returns-in-Err
returns-in-Err g c =
    let old = c.args.old.now in
    (none_there c.count.result old.leaves old.gathered c.count.ensures (omega (arith, c.if-count-gt0.false)), c.in-Err.ensures.stopped)
