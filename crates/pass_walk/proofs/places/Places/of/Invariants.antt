use Rattle.std.proofs.Common.{◌≡◌, ◌≤◌, ℕ, Some, slice_get, length}
use Rattle.std.specs.Ordering.{nat_cmp}
use Rattle.std.specs.BTreeMap.{get}
use Rattle.pass_plain.specs.Traces.{Line}
use Rattle.pass_trace.specs.TraceLines.{plain_trace}
use Rattle.pass_replay.specs.Lines.{IsNextLine}
use Rattle.pass_walk.specs.Tables.{NextPlace}
use Rattle.pass_walk.proofs.places.Places.of.Given as goal

abbrev pub invariant-lines : goal.invariant-lines
invariant-lines l = record {
  size : length l.nexts.items ≡ length l.lines;
  first : (process : ℕ) → IsNextLine (plain_trace l.lines) process l.place (get nat_cmp l.firsts process);
  next : (k : ℕ) (m : Line) → l.place ≤ k → slice_get (plain_trace l.lines) k ≡ Some m → NextPlace (plain_trace l.lines) l.nexts.items k m;
}
