use Rattle.std.proofs.Common.{◌≡◌, ◌≤◌, map, vec_capacity}
use Rattle.pass_walk.specs.Runs.{trail_of}
use Rattle.pass_walk.specs.Walkers.{member_of}
use Rattle.pass_order.proofs.queue.Queue.into_trails.Given as goal

abbrev pub invariant-loop-walker : goal.invariant-loop-walker
invariant-loop-walker g l = record {
  items : l.trails.items ≡ map (λ w. trail_of (member_of w)) l.yielded;
  room : vec_capacity l.fn.room ≤ vec_capacity l.trails;
}
