use Rattle.pass_leaf.proofs.Alike.{number_next}
use Rattle.pass_leaf.proofs.making.changed.Goals as goal

pub loop-number-preserved : goal.loop-number-preserved
loop-number-preserved c =
    number_next c.args.old.now c.args.new.now c.loop-number.number c.loop-number.blocks.items c.add_changed.new.blocks.items c.loop-number.invariant c.in_ok-add_changed.ensures
