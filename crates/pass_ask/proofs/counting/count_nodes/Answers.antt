use Rattle.std.proofs.Common.{◌<◌, ap, sym, ◌∙◌, length, arith}
use Rattle.std.specs.Prelude.{is_some}
use Rattle.pass_graph.specs.ListRanks.{made_node}
use Rattle.pass_ask.proofs.Counted.{node_more, no_node_more}
use Rattle.pass_ask.proofs.counting.count_nodes.Goals as goal
use Rattle.pass_ask.proofs.counting.count_nodes.Goals.{then-makes_node, else-makes_node}

pub loop-one-preserved : goal.loop-one-preserved
loop-one-preserved c =
    let there : c.loop-one.one-index < length c.args.list.now = omega arith in
    let makes = ap (λ r. is_some (made_node r)) (sym c.one-item.is) ∙ sym c.makes_node.ensures in
    elim c.if-makes_node.branch [
      | then-makes_node w ↦ let more = node_more c.args.list.now c.loop-one.one-index c.one-item.result there (makes ∙ w.if-makes_node.true) in (omega arith, omega arith)
      | else-makes_node w ↦ let same = no_node_more c.args.list.now c.loop-one.one-index c.one-item.result there (makes ∙ w.if-makes_node.false) in (omega arith, omega arith)
    ]
