use Rattle.std.proofs.Common.{◌≡◌, ◌≤◌, ℕ, Some, slice_get, length, drop}
use Rattle.pass_plain.specs.Traces.{Line}
use Rattle.pass_trace.specs.TraceLines.{plain_trace}
use Rattle.pass_walk.specs.Behind.{left_behind}
use Rattle.pass_walk.specs.Lefts.{left_in}
use Rattle.pass_walk.proofs.lefts.lefts_of.Given as goal

abbrev pub invariant-lines : goal.invariant-lines
invariant-lines l = record {
  size : length l.lefts.items ≡ length l.lines;
  behind : (process : ℕ) → left_behind l.behind process ≡ left_in (drop l.place (plain_trace l.lines)) process;
  lefts : (k : ℕ) (m : Line) → l.place ≤ k → slice_get (plain_trace l.lines) k ≡ Some m → slice_get l.lefts.items k ≡ Some (left_in (drop k (plain_trace l.lines)) m.process);
}
