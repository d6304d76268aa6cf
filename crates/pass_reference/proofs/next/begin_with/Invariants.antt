use Rattle.std.proofs.Common.{◌≡◌, ◌<◌, ℕ}
use Rattle.std.specs.Prelude.{Some, slice_get}
use Rattle.pass_entry.specs.declared.entry.Entry.{Entry}
use Rattle.pass_plain.specs.Legal.{step_of}
use Rattle.pass_reference.proofs.next.begin_with.Given as goal

abbrev pub invariant-loop-i : goal.invariant-loop-i
invariant-loop-i l = (j : ℕ) (m : ℕ × Entry) → j < l.i → slice_get l.made j ≡ Some m → slice_get l.steps j ≡ Some (step_of m)
