use Rattle.std.proofs.Common.{◌≤◌, ◌<◌}
use Rattle.pass_trace.specs.TraceLines.{plain_trace}
use Rattle.pass_order.specs.Queues.{IsSet, room_in}
use Rattle.pass_order.proofs.running.make_calls.Given as goal

abbrev pub invariant-loop : goal.invariant-loop
invariant-loop g l = record {
  set : IsSet g.J.Whose.book.session (plain_trace l.fn.ground.plan.now) l.queue;
  few : l.made < 512;
  room : room_in (plain_trace l.fn.ground.plan.now) l.queue.walkers.items ≤ room_in (plain_trace l.fn.ground.plan.now) l.initial.queue.walkers.items;
}
