use Rattle.std.proofs.Common.{◌≡◌, take}
use Rattle.std.specs.List.{All}
use Rattle.pass_view.specs.Facts.{IsTold}
use Rattle.pass_view.specs.Views.{nodes_of}
use Rattle.pass_view.proofs.selecting.Source.describe.Given as goal

abbrev pub invariant-loop-node : goal.invariant-loop-node
invariant-loop-node l = record {
  nodes : nodes_of l.list.items ≡ take l.node-index l.nodes;
  told : All (IsTold l.self.index.now) l.list.items;
}
