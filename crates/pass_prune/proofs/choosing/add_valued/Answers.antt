use Rattle.std.proofs.Common.{ℕ, List}
use Rattle.std.specs.HashSet.{contains}
use Rattle.pass_entry.specs.declared.objects.Node.{Node}
use Rattle.pass_plain.specs.Versions.{same_node}
use Rattle.pass_prune.proofs.Nodes.{node_put}
use Rattle.pass_prune.proofs.choosing.add_valued.Goals as goal

pub loop-value-preserved : goal.loop-value-preserved
loop-value-preserved c = λ n.
    node_put (λ (v : Node × List ℕ). v.0) c.args.values.now c.loop-value.value-index c.value-item.result n (contains same_node c.args.nodes.now n) (contains same_node c.loop-value.nodes n) (contains same_node c.insert.new.self n) c.loop-value-test.true
    c.value-item.is (c.loop-value.invariant n) (c.in_ok-insert.ensures.updates.0 n)
