use Rattle.std.proofs.Common.{take}
use Rattle.std.specs.List.{All}
use Rattle.pass_waldo.specs.Lookups.{AreAll}
use Rattle.pass_view.specs.Facts.{IsRelated}
use Rattle.pass_view.specs.Views.{edge_cmp, edges_of}
use Rattle.pass_view.proofs.Showing.{Leaves}
use Rattle.pass_view.proofs.selecting.Source.links.Given as goal

abbrev pub invariant-loop-node : goal.invariant-loop-node
invariant-loop-node l = record {
  edges : AreAll edge_cmp (edges_of l.links.items) (Leaves l.self.index.now (take l.node-index l.nodes));
  related : All (IsRelated l.self.index.now) l.links.items;
}
