use Rattle.std.proofs.Common.{◌≡◌, ◌<◌, ℕ}
use Rattle.std.specs.FinMap as finite_map
use Rattle.pass_entry.proofs.objects.Descriptors.is_same.Given as goal

abbrev pub invariant-loop-fd : goal.invariant-loop-fd
invariant-loop-fd l = (k : ℕ) → k < l.fd → finite_map.get l.self k ≡ finite_map.get l.other k
