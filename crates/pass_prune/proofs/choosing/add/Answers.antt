use Rattle.std.specs.HashSet.{contains}
use Rattle.pass_entry.specs.declared.objects.Node.{Node}
use Rattle.pass_plain.specs.Versions.{same_node}
use Rattle.pass_prune.proofs.Nodes.{node_put}
use Rattle.pass_prune.proofs.choosing.add.Goals as goal

pub loop-node-preserved : goal.loop-node-preserved
loop-node-preserved c = λ n.
    node_put (λ (m : Node). m) c.args.more.now c.loop-node.node-index c.node-item.result n (contains same_node c.args.nodes.now n) (contains same_node c.loop-node.nodes n) (contains same_node c.insert.new.self n) c.loop-node-test.true c.node-item.is
    (c.loop-node.invariant n) (c.in_ok-insert.ensures.updates.0 n)
