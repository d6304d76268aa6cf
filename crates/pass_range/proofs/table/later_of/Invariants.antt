use Rattle.std.proofs.Common.{◌≡◌, ℕ, length, take}
use Rattle.std.specs.Prelude.{reverse}
use Rattle.pass_range.specs.Sources.{touch}
use Rattle.pass_range.specs.Laters.{touch_in}
use Rattle.pass_range.proofs.table.later_of.Given as goal

abbrev pub invariant-loop-one : goal.invariant-loop-one
invariant-loop-one l = (pnode block : ℕ) → touch_in l.later pnode block ≡ touch pnode block (reverse (take (length l.yielded) (reverse l.list)))
