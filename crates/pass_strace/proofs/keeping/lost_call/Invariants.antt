use Rattle.std.proofs.Common.{ℕ, ◌<◌, map}
use Rattle.pass_strace.specs.Calls.{KeepsRest, KeepsWhole}
use Rattle.pass_strace.specs.Openings.{AreLast}
use Rattle.pass_strace.proofs.keeping.lost_call.Given as goal

abbrev pub invariant-loop-i : goal.invariant-loop-i
invariant-loop-i l = record {
  whole : (k : ℕ) → k < l.i → KeepsWhole (map (λ x. x.now) l.lines) l.origins l.skipped k;
  rest : (k : ℕ) → k < l.i → KeepsRest (map (λ x. x.now) l.lines) l.origins l.skipped k;
  noted : AreLast (map (λ x. x.now) l.lines) l.table l.i;
}
