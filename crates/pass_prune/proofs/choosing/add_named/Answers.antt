use Rattle.std.proofs.Common.{◌≡◌, ◌⊎◌, ◌↔◌, true, List, subst, arith}
use Rattle.std.specs.HashSet.{contains}
use Rattle.std.proofs.lemmas.List.{take_all}
use Rattle.pass_entry.specs.declared.objects.Node.{Node}
use Rattle.pass_plain.specs.Versions.{same_node}
use Rattle.pass_prune.specs.Choices.{IsNamed}
use Rattle.pass_prune.proofs.Nodes.{none_named, named_put}
use Rattle.pass_prune.proofs.choosing.add_named.Goals as goal

pub loop-node-init : goal.loop-node-init
loop-node-init g c = λ n. none_named c.args.index.now n (contains same_node c.args.nodes.now n)

pub loop-node-preserved : goal.loop-node-preserved
loop-node-preserved g c = λ n.
    named_put c.args.index.now c.args.named.now c.loop-node.node-index c.node-item.result n (contains same_node c.args.nodes.now n) (contains same_node c.loop-node.nodes n) (contains same_node c.add_lineage.new.nodes n) c.loop-node-test.true c.node-item.is
    (c.loop-node.invariant n) (c.in_ok-add_lineage.ensures n)

pub returns : goal.returns
returns g c = λ n.
    subst (λ (l : List Node). (contains same_node c.loop-node.nodes n ≡ true) ↔ ((contains same_node c.args.nodes.now n ≡ true) ⊎ IsNamed c.args.index.now l n))
    (take_all c.loop-node.node-index c.args.named.now (omega (arith, c.loop-node-test.false))) (c.loop-node.invariant n)
