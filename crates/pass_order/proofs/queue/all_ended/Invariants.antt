use Rattle.std.proofs.Common.{◌≡◌, ◌<◌, ℕ, true}
use Rattle.std.specs.Prelude.{slice_get, Some}
use Rattle.pass_walk.specs.declared.walker.Walker.{Walker}
use Rattle.pass_walk.specs.Walkers.{member_of}
use Rattle.pass_order.proofs.queue.all_ended.Given as goal

abbrev pub invariant-loop-place : goal.invariant-loop-place
invariant-loop-place g l = (k : ℕ) (w : Walker _) → k < l.place → slice_get l.fn.walkers k ≡ Some w → (member_of w).ended ≡ true
