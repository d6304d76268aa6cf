use Rattle.std.proofs.Common.{◌≡◌, ◌<◌, ℕ}
use Rattle.std.specs.Prelude.{slice_get, Some}
use Rattle.pass_order.specs.declared.standing.Standing.{Standing}
use Rattle.pass_order.proofs.queue.all_tried.Given as goal

abbrev pub invariant-loop-place : goal.invariant-loop-place
invariant-loop-place l = (k : ℕ) (s : Standing) → k < l.place → slice_get l.fn.late k ≡ Some s → s.seen ≡ l.fn.count
