use Rattle.std.proofs.Common.{◌≡◌, ℕ, ◌<◌, ◌≤◌, length, take, drop, None}
use Rattle.pass_trace.specs.Lines.{lines_of}
use Rattle.pass_trace.specs.Traces.{lines_from, fault_at}
use Rattle.pass_trace.proofs.parsing.parse_within.Given as goal

abbrev pub invariant-loop-rest : goal.invariant-loop-rest
invariant-loop-rest l = record {
  within : l.number ≤ 1000000;
  there : l.number ≤ length (lines_of l.fn.bytes);
  rest : lines_of l.rest ≡ drop l.number (lines_of l.fn.bytes);
  lines : l.earlier ≡ lines_from l.fn.scale 1 (take l.number (lines_of l.fn.bytes));
  sound : (k : ℕ) → k < l.number → fault_at l.fn.scale (lines_of l.fn.bytes) k ≡ None;
}

abbrev pub decreases-loop-rest : goal.decreases-loop-rest
decreases-loop-rest l = length l.rest
