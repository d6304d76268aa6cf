use Rattle.std.proofs.Common.{◌≡◌, take}
use Rattle.std.specs.Prelude.{string_bytes}
use Rattle.pass_old.specs.Diffs.{range_lines}
use Rattle.pass_old.proofs.diffing.range_text.Given as goal

abbrev pub invariant-loop-range : goal.invariant-loop-range
invariant-loop-range l = string_bytes l.text ≡ range_lines (take l.range-index l.ranges)
