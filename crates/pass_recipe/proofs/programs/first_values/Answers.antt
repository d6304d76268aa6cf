use Rattle.std.proofs.Common.{◌∙◌}
use Rattle.std.specs.HashMap.{get}
use Rattle.pass_plain.specs.Versions.{same_node}
use Rattle.pass_recipe.proofs.Firsts.{first_noted}
use Rattle.pass_recipe.proofs.programs.first_values.Goals as goal

pub loop-node-preserved : goal.loop-node-preserved
loop-node-preserved c = λ n.
    c.in_ok-note_first.ensures n
    ∙ first_noted c.args.values.now c.loop-node.node-index c.loop-node-item.result c.loop-node-test.true c.loop-node-item.is (get same_node c.loop-node.firsts) c.loop-node.invariant n
