use Rattle.pass_view.proofs.Ordering.{ordered}
use Rattle.pass_view.proofs.selecting.in_order.Goals as goal

pub returns : goal.returns
returns c = ordered c.args.nodes.items c.sort_unstable.new.self.items c.requires c.sort_unstable.ensures.permutation c.sort_unstable.ensures.sorted
