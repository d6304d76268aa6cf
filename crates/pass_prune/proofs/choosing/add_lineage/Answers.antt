use Rattle.std.proofs.Common.{List, sym, subst}
use Rattle.std.specs.HashSet.{contains}
use Rattle.std.proofs.lemmas.Result.{on_ok_weaker}
use Rattle.pass_entry.specs.declared.objects.Node.{Node}
use Rattle.pass_plain.specs.Graphs.{HasPath}
use Rattle.pass_plain.specs.Versions.{same_node}
use Rattle.pass_waldo.specs.Lookups.{AreAll}
use Rattle.pass_waldo.specs.Orders.{node_cmp}
use Rattle.pass_prune.proofs.Nodes.{lineage_put}
use Rattle.pass_prune.proofs.choosing.add_lineage.Goals as goal

pub returns : goal.returns
returns g c =
    let list = c.args.index.now in
    let node = c.args.node.now in
    let before = subst (λ (row : List Node). AreAll node_cmp row (λ b. HasPath list node b)) (sym c.deref.ensures.value) c.in-Ok.ensures.all in
    on_ok_weaker c.add.result (λ all n.
    lineage_put list node n c.deref.result.now (contains same_node c.args.nodes.now n) (contains same_node c.insert.new.self n) (contains same_node c.add.new.nodes n) before (c.in_ok-insert.ensures.updates.0 n) (all n)) c.add.ensures
