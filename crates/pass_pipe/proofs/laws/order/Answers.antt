use Rattle.pass_pipe.proofs.OnePipe.{order_law}
use Rattle.pass_pipe.proofs.laws.order.Goals as goal

pub returns : goal.returns
returns c = order_law
