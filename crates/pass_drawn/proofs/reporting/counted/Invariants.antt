use Rattle.std.proofs.Common.{◌≤◌, ◌*◌, take}
use Rattle.pass_drawn.specs.Tallies.{IsTally}
use Rattle.pass_drawn.proofs.reporting.counted.Given as goal

abbrev pub invariant-loop-place : goal.invariant-loop-place
invariant-loop-place l = IsTally (take l.place l.history) l.tally × (l.tally.calls ≤ l.place) × (l.tally.writes ≤ l.place) × (l.tally.bytes ≤ 4096 * l.place)
