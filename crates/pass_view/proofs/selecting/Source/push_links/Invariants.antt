use Rattle.std.proofs.Common.{◌≡◌, ◌++◌, take}
use Rattle.std.specs.Prelude.{map}
use Rattle.std.specs.List.{All}
use Rattle.pass_view.specs.Facts.{IsRelated}
use Rattle.pass_view.specs.Views.{edges_of}
use Rattle.pass_view.proofs.selecting.Source.push_links.Given as goal

abbrev pub invariant-loop-source : goal.invariant-loop-source
invariant-loop-source l = record {
  edges : edges_of l.links.items ≡ edges_of l.initial.links.items ++ map (λ s. (l.node, s)) (take l.source-index l.sources);
  related : All (IsRelated l.self.index.now) l.initial.links.items → All (IsRelated l.self.index.now) l.links.items;
}
