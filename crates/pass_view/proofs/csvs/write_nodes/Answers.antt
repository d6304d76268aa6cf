use Rattle.std.proofs.Common.{arith}
use Rattle.pass_view.specs.Csvs.{node_row, row_bytes}
use Rattle.pass_view.specs.declared.picture.Shown.{Shown}
use Rattle.pass_view.proofs.Rows.{all_written, next_written, none_written}
use Rattle.pass_view.proofs.csvs.write_nodes.Goals as goal

pub loop-shown-init : goal.loop-shown-init
loop-shown-init c = none_written (λ (x : Shown). row_bytes (node_row c.args.store.now x)) c.args.nodes.now c.args.out.now c.args.out.now

pub loop-shown-preserved : goal.loop-shown-preserved
loop-shown-preserved c =
    next_written (λ (x : Shown). row_bytes (node_row c.args.store.now x)) c.args.nodes.now c.args.out.now c.loop-shown.out c.write_node.new.out c.shown-item.result c.loop-shown.shown-index
    c.loop-shown-test.true c.shown-item.is c.loop-shown.invariant c.in_ok-write_node.ensures

pub returns : goal.returns
returns c =
    all_written (λ (x : Shown). row_bytes (node_row c.args.store.now x)) c.args.nodes.now c.args.out.now c.loop-shown.out c.loop-shown.shown-index (omega (arith, c.loop-shown-test.false)) c.loop-shown.invariant
