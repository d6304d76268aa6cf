use Rattle.std.proofs.Common.{◌≡◌}
use Rattle.std.specs.Prelude.{Some, None, Option}
use Rattle.pass_entry.specs.declared.objects.Node.{Node}
use Rattle.pass_graph.specs.ListRanks.{HasNode}
use Rattle.pass_view.proofs.Lacking.{lacking_both}
use Rattle.pass_view.proofs.texts.table_text.Goals as goal

pub returns-in_err-view-clause-there : goal.returns-in_err-view-clause-there
returns-in_err-view-clause-there c = λ n told.
    let none : ◌≡◌ {A = Option Node} None (Some n) =
    ((lacking_both c.select.result c.from_residual.result c.in_err-view.field-0.0 (λ m. (◌≡◌ {A = Option Node} None (Some m)) × ¬ (HasNode c.args.index.now m)) c.in_err-view.was c.from_residual.ensures.1
    c.select.ensures.absent n).0 told).0 in
    cc

pub returns-clause-text : goal.returns-clause-text
returns-clause-text c = record {
  view = c.in_ok-view.view;
  shows = record { nodes = c.in_ok-view.ensures.nodes; edges = c.in_ok-view.ensures.edges; told = c.in_ok-view.ensures.told; related = c.in_ok-view.ensures.related };
  is = c.in_ok-tabulate.ensures;
}
