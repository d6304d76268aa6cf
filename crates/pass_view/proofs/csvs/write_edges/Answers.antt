use Rattle.std.proofs.Common.{arith}
use Rattle.pass_view.specs.Csvs.{edge_row, row_bytes}
use Rattle.pass_view.specs.declared.picture.Link.{Link}
use Rattle.pass_view.proofs.Rows.{all_written, next_written, none_written}
use Rattle.pass_view.proofs.csvs.write_edges.Goals as goal

pub loop-link-init : goal.loop-link-init
loop-link-init c = none_written (λ (x : Link). row_bytes (edge_row c.args.store.now x)) c.args.edges.now c.args.out.now c.args.out.now

pub loop-link-preserved : goal.loop-link-preserved
loop-link-preserved c =
    next_written (λ (x : Link). row_bytes (edge_row c.args.store.now x)) c.args.edges.now c.args.out.now c.loop-link.out c.write_edge.new.out c.link-item.result c.loop-link.link-index
    c.loop-link-test.true c.link-item.is c.loop-link.invariant c.in_ok-write_edge.ensures

pub returns : goal.returns
returns c =
    all_written (λ (x : Link). row_bytes (edge_row c.args.store.now x)) c.args.edges.now c.args.out.now c.loop-link.out c.loop-link.link-index (omega (arith, c.loop-link-test.false)) c.loop-link.invariant
