use Rattle.std.proofs.Common.{◌≡◌, drop}
use Rattle.std.specs.Prelude.{None}
use Rattle.pass_ask.specs.Telling.{last_at}
use Rattle.pass_ask.proofs.telling.last_at.Given as goal

abbrev pub invariant-loop-place : goal.invariant-loop-place
invariant-loop-place l = last_at (drop l.place l.word) ≡ None
