use Rattle.std.proofs.Common.{◌∙◌, ◌&&◌, ◌==◌, ◌%◌, not, min, sym}
use Rattle.std.specs.Prelude.{nat_lt}
use Rattle.pass_entry.proofs.Lists.{true_right, below_is}
use Rattle.pass_file.specs.BlockSets.{is_among}
use Rattle.pass_file.proofs.Resizing.{edge_some, edge_none}
use Rattle.pass_file.proofs.touched.edge_of.Goals as goal

pub returns-then-is_edge-clause-same : goal.returns-then-is_edge-clause-same
returns-then-is_edge-clause-same c = λ b.
    edge_some c.args.old c.args.new c.args.rows.now.blocks c.requires.below c.edge_at-block.result c.args.first b c.edge_at-block.ensures (sym c.is_edge.ensures ∙ c.if-is_edge.true)

pub returns-then-is_edge-clause-below : goal.returns-then-is_edge-clause-below
returns-then-is_edge-clause-below c =
    let a = c.args in
    let e = c.edge_at-block.result in
    below_is e a.first
    (true_right (is_among a.rows.now.blocks e && (not (a.old == a.new) && not (min a.old a.new % 4096 == 0))) (nat_lt e a.first) (sym c.is_edge.ensures ∙ c.if-is_edge.true))

pub returns-else-is_edge-clause-same : goal.returns-else-is_edge-clause-same
returns-else-is_edge-clause-same c = λ b.
    edge_none c.args.old c.args.new c.args.rows.now.blocks c.requires.below c.edge_at-block.result c.args.first b c.edge_at-block.ensures (sym c.is_edge.ensures ∙ c.if-is_edge.false)
