use Rattle.pass_view.specs.Dots.{line_if}
use Rattle.pass_view.specs.declared.picture.Shown.{Shown}
use Rattle.pass_view.proofs.Drawing.{one_more}
use Rattle.pass_view.proofs.dots.push_system.Goals as goal

pub loop-shown-preserved : goal.loop-shown-preserved
loop-shown-preserved c =
    one_more (λ (s : Shown). line_if s.is_system s) c.args.nodes.now c.shown-item.result c.loop-shown.shown-index c.args.out.now.items c.loop-shown.out.items c.push_node_if.new.out.items
    c.loop-shown-test.true c.shown-item.is c.loop-shown.invariant c.in_ok-push_node_if.ensures
