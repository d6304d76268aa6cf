use Rattle.std.proofs.Common.{◌∙◌, List, ap}
use Rattle.std.specs.Prelude.{slice_get}
use Rattle.pass_walk.specs.declared.walker.Walker.{Walker}
use Rattle.pass_order.proofs.queue.Queue.have_ended.Goals as goal

pub returns : goal.returns
returns g c done i w at = c.all_ended.ensures done i w (ap (λ (ws : List (Walker _)). slice_get ws i) c.as_slice.ensures.value ∙ at)
