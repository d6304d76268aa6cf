use Rattle.std.proofs.Common.{◌≡◌, ◌+◌, ◌++◌}
use Rattle.std.specs.Prelude.{map}
use Rattle.std.specs.List.{range_with_len}
use Rattle.pass_trace.specs.declared.trace.Command.TheVariants.{Wait}
use Rattle.pass_gen.specs.Generated.{line}
use Rattle.pass_gen.proofs.wait.Given as goal

abbrev pub invariant-loop-waited : goal.invariant-loop-waited
invariant-loop-waited l = l.lines.items ≡ l.initial.lines.items ++ map (λ child. line (7 + l.fn.count + child) 1 (Wait child)) (range_with_len 2 l.waited)
