use Rattle.std.proofs.Common.{◌≡◌, take}
use Rattle.pass_reference.proofs.callers.copied_entries.Given as goal

abbrev pub invariant-loop-place : goal.invariant-loop-place
invariant-loop-place l = l.copies.items ≡ take l.place-index l.made
