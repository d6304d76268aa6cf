use Rattle.pass_order.proofs.Handed.{replayed_to}
use Rattle.pass_order.proofs.laws.replays.Goals as goal

pub returns : goal.returns
returns c = replayed_to c.orders.ensures.done c.orders.ensures.still c.starts.ensures.room
