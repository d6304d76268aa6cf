use Rattle.std.proofs.Common.{ℕ, ◌≡◌, ◌+◌, ◌∙◌, sym, ap, subst, List, [], ◌∷◌, ◌++◌, take, arith}
use Rattle.std.proofs.lemmas.List.{take_all, take_more}
use Rattle.std.proofs.lemmas.List.Elements.{All-nil}
use Rattle.std.specs.List.{All}
use Rattle.pass_view.specs.Facts.{IsRelated}
use Rattle.pass_entry.specs.declared.objects.Node.{Node}
use Rattle.pass_waldo.specs.Lookups.{AreAll}
use Rattle.pass_view.specs.Views.{edge_cmp, edges_of}
use Rattle.pass_view.proofs.Showing.{Leaves, below_place, edges_more, no_edges}
use Rattle.pass_view.proofs.selecting.Source.links.Goals as goal

pub loop-node-preserved : goal.loop-node-preserved
loop-node-preserved c =
    let list = c.args.self.now.index.now in
    let nodes : List Node = c.args.nodes.now in
    let k : ℕ = c.loop-node.node-index in
    let n : Node = c.node-item.result in
    let front : take (k + 1) nodes ≡ take k nodes ++ n ∷ [] = take_more nodes k n c.loop-node-test.true ∙ ap (λ x. take k nodes ++ x ∷ []) (sym c.node-item.is) in
    record {
      edges = subst (λ ns. AreAll edge_cmp (edges_of c.push_links.new.links.items) (Leaves list ns)) (sym front)
          (subst (λ es. AreAll edge_cmp es (Leaves list (take k nodes ++ n ∷ []))) (sym c.in_ok-push_links.ensures.edges)
          (edges_more list (take k nodes) n (edges_of c.loop-node.links.items) c.parents.result.now (below_place nodes c.requires k n c.loop-node-test.true c.node-item.is)
          c.loop-node.invariant.edges c.parents.ensures));
      related = c.in_ok-push_links.ensures.related c.loop-node.invariant.related;
    }

pub returns-clause-edges : goal.returns-clause-edges
returns-clause-edges c =
    subst (λ ns. AreAll edge_cmp (edges_of c.loop-node.links.items) (Leaves c.args.self.now.index.now ns))
    (take_all c.loop-node.node-index c.args.nodes.now (omega (arith, c.loop-node-test.false))) c.loop-node.invariant.edges

pub loop-node-init : goal.loop-node-init
loop-node-init c = record {
  edges = subst (λ es. AreAll edge_cmp (edges_of es) (Leaves c.args.self.now.index.now [])) (sym c.new-links.ensures.items) (no_edges c.args.self.now.index.now);
  related = subst (All (IsRelated c.args.self.now.index.now)) (sym c.new-links.ensures.items) (All-nil (IsRelated c.args.self.now.index.now));
}
