use Rattle.std.proofs.Common.{◌≡◌, ◌∙◌, sym, subst, true, List}
use Rattle.std.specs.Prelude.{Contains, Some}
use Rattle.std.specs.List.Sorted.{IsStrictlySortedBy}
use Rattle.pass_entry.specs.declared.objects.Node.{Node}
use Rattle.pass_graph.specs.ListRanks.{HasNode}
use Rattle.pass_plain.specs.WellLogged.{is_known}
use Rattle.pass_waldo.specs.Lookups.{AreAll}
use Rattle.pass_waldo.specs.Orders.{node_cmp}
use Rattle.pass_view.specs.Views.{IsShown}
use Rattle.pass_view.proofs.Ends.{edges_shown}
use Rattle.pass_view.proofs.Lacking.{lacking_both}
use Rattle.pass_view.proofs.selecting.select.Goals as goal

pub returns-in_err-nodes-clause-absent : goal.returns-in_err-nodes-clause-absent
returns-in_err-nodes-clause-absent c =
    lacking_both c.shown_nodes.result c.from_residual.result c.in_err-nodes.field-0.0 (λ n. (c.args.node ≡ Some n) × ¬ (HasNode c.args.index.now n)) c.in_err-nodes.was c.from_residual.ensures.1
    c.shown_nodes.ensures.absent

pub view_of-requires : goal.view_of-requires
view_of-requires c = record {
  known = subst (λ (ns : List Node). (n : Node) → Contains ns n → is_known c.args.index.now n.pnode ≡ true) (sym c.deref.ensures.value) c.in_ok-nodes.ensures.known;
  ascending = subst (IsStrictlySortedBy node_cmp) (sym c.deref.ensures.value) c.in_ok-nodes.ensures.all.ascending;
}

pub returns-clause-nodes : goal.returns-clause-nodes
returns-clause-nodes c =
    subst (λ ns. AreAll node_cmp ns (IsShown c.args.index.now c.args.node)) (sym (c.in_ok-view_of.ensures.nodes ∙ c.deref.ensures.value)) c.in_ok-nodes.ensures.all

pub returns-clause-edges : goal.returns-clause-edges
returns-clause-edges c =
    edges_shown c.args.index.now c.view_of.ensures.logged c.args.node c.deref.result.now
    (subst (λ ns. AreAll node_cmp ns (IsShown c.args.index.now c.args.node)) (sym c.deref.ensures.value) c.in_ok-nodes.ensures.all) _ c.in_ok-view_of.ensures.edges
