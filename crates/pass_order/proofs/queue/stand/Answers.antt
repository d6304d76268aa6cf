use Rattle.pass_sched.proofs.Results.{ok_then}
use Rattle.pass_order.proofs.queue.stand.Goals as goal

pub returns-clause-items : goal.returns-clause-items
returns-clause-items c = ok_then _ _ (c.push.ensures.succeeds c.requires) c.push.ensures.permutation

pub returns-clause-heap : goal.returns-clause-heap
returns-clause-heap c = ok_then _ _ (c.push.ensures.succeeds c.requires) c.push.ensures.heap_order
