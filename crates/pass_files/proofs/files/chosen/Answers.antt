use Rattle.std.proofs.Common.{◌∙◌, ap, subst, List, [], ◌∷◌, ◌++◌}
use Rattle.std.specs.Prelude.{if◌then◌else◌}
use Rattle.pass_entry.specs.declared.objects.Node.{Node}
use Rattle.pass_entry.specs.declared.record.Record.{Record}
use Rattle.pass_files.specs.Tables.{AreFacts, is_kept}
use Rattle.pass_files.proofs.Choosing.{one_more_kept}
use Rattle.pass_files.proofs.files.chosen.Goals as goal

pub loop-node-preserved : goal.loop-node-preserved
loop-node-preserved c =
    let p = is_kept c.args.index.now c.args.choice c.args.found.now in
    c.in_ok-keep.ensures ∙ ap (λ (ns : List Node). ns ++ (if c.is_kept.result then c.node-item.result ∷ [] else [])) c.loop-node.invariant
    ∙ one_more_kept p c.args.nodes.now c.loop-node.node-index c.node-item.result c.is_kept.result c.loop-node-test.true c.node-item.is
    (c.is_kept.ensures c.args.index.now (subst (λ (l : List Record). AreFacts l c.in_ok-facts.facts) c.records.ensures.records c.in_ok-facts.ensures))
