use Rattle.std.proofs.Common.{◌≡◌, ◌≤◌, ◌+◌, ◌*◌, take}
use Rattle.std.specs.Prelude.{sum_by}
use Rattle.pass_run.proofs.Needed.{need}
use Rattle.pass_run.proofs.needs.places_of.Given as goal

abbrev pub invariant-loop-line : goal.invariant-loop-line
invariant-loop-line l = (l.places ≡ 66 + sum_by need (take l.line-index l.lines)) × (l.places ≤ 66 + 132 * l.line-index)
