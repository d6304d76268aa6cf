use Rattle.std.proofs.Common.{◌≡◌, ◌<◌, ℕ, None}
use Rattle.pass_vault.specs.Pooled.{staged_in}
use Rattle.pass_vault.proofs.unwritten.has_file.Given as goal

abbrev pub invariant-loop-block : goal.invariant-loop-block
invariant-loop-block l = (b : ℕ) → b < l.block → staged_in l.pool l.fn.number b ≡ None
