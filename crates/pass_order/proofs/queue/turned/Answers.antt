use Rattle.std.proofs.Common.{refl}
use Rattle.pass_order.proofs.queue.turned.Goals as goal

pub turned_out-requires-clause-living : goal.turned_out-requires-clause-living
turned_out-requires-clause-living g c = (c.args.living, c.in-None.ensures.none refl)
