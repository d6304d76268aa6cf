use Rattle.std.proofs.Common.{◌≡◌, ◌++◌, drop}
use Rattle.pass_observed.specs.Spellings.{fitting}
use Rattle.pass_observed.proofs.spelling.fitting.Given as goal

abbrev pub invariant-loop-i : goal.invariant-loop-i
invariant-loop-i l = fitting l.fn.most l.bytes ≡ l.text.items ++ fitting l.room (drop l.i l.bytes)
