use Rattle.std.proofs.Common.{ap, ◌∙◌, refl, ◌++◌, [], sym, subst, length, length-append, append-nil, append_assoc, arith}
use Rattle.pass_sched.specs.Passes.{start, more, Takes}
use Rattle.pass_sched.proofs.Plays.{room_stays}
use Rattle.pass_sched.proofs.play.play.Goals as goal

pub loop-init : goal.loop-init
loop-init g c = (([], sym (append-nil _), start), omega arith, omega arith)

pub loop-preserved : goal.loop-preserved
loop-preserved g c =
    let turn = c.turn.ensures.turn in
    let old = c.loop.invariant.0 in
    let moved = subst (λ a. Takes g.T.Task c.loop.task turn.0 a c.turn.new.self) c.in-Moved.is (turn.2, turn.3) in (
      (old.0 ++ turn.0, turn.1 ∙ (ap (λ l. l ++ turn.0) old.1 ∙ append_assoc c.args.born.now.items old.0 turn.0), more old.2 moved refl),
      omega (arith, room_stays g.T.Task _ _ _ _ (turn.2, turn.3), ap length turn.1, length-append c.loop.born.items turn.0, c.turn.new.born.ok.0, c.loop.born.ok.0),
      omega arith,
    )
