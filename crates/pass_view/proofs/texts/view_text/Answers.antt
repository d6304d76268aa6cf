use Rattle.std.proofs.Common.{◌≡◌}
use Rattle.std.specs.Prelude.{Some}
use Rattle.pass_graph.specs.ListRanks.{HasNode}
use Rattle.pass_view.proofs.Lacking.{lacking_both}
use Rattle.pass_view.proofs.texts.view_text.Goals as goal

pub returns-in_err-view-clause-absent : goal.returns-in_err-view-clause-absent
returns-in_err-view-clause-absent c =
    lacking_both c.select.result c.from_residual.result c.in_err-view.field-0.0 (λ n. (c.args.node ≡ Some n) × ¬ (HasNode c.args.index.now n)) c.in_err-view.was c.from_residual.ensures.1
    c.select.ensures.absent

pub returns-clause-text : goal.returns-clause-text
returns-clause-text c = record {
  view = c.in_ok-view.view;
  shows = record { nodes = c.in_ok-view.ensures.nodes; edges = c.in_ok-view.ensures.edges; told = c.in_ok-view.ensures.told; related = c.in_ok-view.ensures.related };
  is = c.in_ok-written.ensures;
}
