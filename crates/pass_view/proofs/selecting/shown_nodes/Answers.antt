use Rattle.std.proofs.Common.{◌≡◌, ◌∙◌, ap, sym, subst}
use Rattle.std.specs.Prelude.{IfOk, Option, Some}
use Rattle.std.specs.declared.alloc.Global.{Global}
use Rattle.std.specs.declared.vec.Vec.{Vec}
use Rattle.pass_entry.specs.declared.objects.Node.{Node}
use Rattle.pass_graph.specs.ListRanks.{HasNode}
use Rattle.pass_plain.proofs.Lists.{some_is}
use Rattle.pass_waldo.specs.Lookups.{AreAll}
use Rattle.pass_waldo.specs.Orders.{node_cmp}
use Rattle.pass_view.specs.Views.{IsShown}
use Rattle.pass_view.proofs.selecting.shown_nodes.Goals as goal

pub returns-in-Some-clause-all : goal.returns-in-Some-clause-all
returns-in-Some-clause-all g c =
    subst (λ (node : Option Node). IfOk c.lineage.result (λ (v : Vec Node Global). AreAll node_cmp v.items (IsShown c.args.index.now node))) (sym c.in-Some.is) c.lineage.ensures.all

pub returns-in-Some-clause-absent : goal.returns-in-Some-clause-absent
returns-in-Some-clause-absent g c = λ n.
    let told = c.lineage.ensures.absent n in (
      λ same.
          let z = told.0 same in
          (c.in-Some.is ∙ ap Some (sym z.0), λ has. z.1 (subst (HasNode c.args.index.now) z.0 has)),
      λ holds.
          let is : n ≡ c.in-Some.node = some_is n c.in-Some.node (sym holds.0 ∙ c.in-Some.is) in
          told.1 (is, λ has. holds.1 (subst (HasNode c.args.index.now) (sym is) has)),
    )
