use Rattle.std.proofs.Common.{◌≡◌}
use Rattle.pass_graph.specs.ListRanks.{HasNode}
use Rattle.pass_view.proofs.Lacking.{lacking_both}
use Rattle.pass_view.proofs.selecting.lineage.Goals as goal

pub returns-in_err-nodes-clause-absent : goal.returns-in_err-nodes-clause-absent
returns-in_err-nodes-clause-absent g c =
    lacking_both c.ancestors.result c.from_residual.result c.in_err-nodes.field-0.0 (λ n. (n ≡ c.args.node) × ¬ (HasNode c.args.index.now c.args.node)) c.in_err-nodes.was c.from_residual.ensures.1
    c.ancestors.ensures.absent

pub with_node-requires : goal.with_node-requires
with_node-requires g c = record { ancestors = c.in_ok-nodes.ensures.all; there = c.has.ensures.there.0 c.if-not-has.false }
