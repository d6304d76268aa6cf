use Rattle.std.proofs.Common.{◌∙◌, ap, sym, subst}
use Rattle.std.specs.List.{All}
use Rattle.std.proofs.lemmas.List.Elements.{All-push}
use Rattle.pass_view.specs.Facts.{IsRelated}
use Rattle.pass_view.specs.Views.{edges_of}
use Rattle.pass_view.proofs.Showing.{link_added}
use Rattle.pass_view.proofs.selecting.Source.push_links.Goals as goal

pub loop-source-preserved : goal.loop-source-preserved
loop-source-preserved c =
    let list = c.args.self.now.index.now in
    record {
      edges =
          ap edges_of c.in_ok-push.ensures.items
          ∙ link_added c.loop-source.links.items c.link.result c.args.node.now (edges_of c.args.links.now.items) c.args.sources.now c.loop-source.source-index c.source-item.result
          c.loop-source-test.true c.source-item.is c.link.ensures.target c.link.ensures.source c.loop-source.invariant.edges;
      related = λ all.
          subst (All (IsRelated list)) (sym c.in_ok-push.ensures.items)
          (All-push (IsRelated list) c.loop-source.links.items c.link.result (c.loop-source.invariant.related all) (c.link.ensures.related list c.args.self.now.told));
    }
