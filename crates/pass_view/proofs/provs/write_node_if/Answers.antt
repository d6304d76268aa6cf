use Rattle.std.proofs.lemmas.Result.{on_ok_weaker}
use Rattle.pass_view.specs.Provs.{node_member}
use Rattle.pass_view.proofs.Adding.{added_if, none_unless}
use Rattle.pass_view.proofs.provs.write_node_if.Goals as goal

pub returns-then-is_here : goal.returns-then-is_here
returns-then-is_here c =
    on_ok_weaker c.write_node.result (added_if c.args.out.now c.write_node.new.out c.args.is_here (node_member c.args.shown.now) c.if-is_here.true) c.write_node.ensures

pub returns-else-is_here : goal.returns-else-is_here
returns-else-is_here c = none_unless c.args.out.now c.args.is_here (node_member c.args.shown.now) c.if-is_here.false
