use Rattle.std.proofs.Common.{◌≡◌, ◌∷◌}
use Rattle.std.specs.Prelude.{map, codes}
use Rattle.std.specs.List.{range_with_len}
use Rattle.pass_trace.specs.declared.trace.Command.TheVariants.{Creat, Fork}
use Rattle.pass_gen.specs.Generated.{line}
use Rattle.pass_gen.proofs.begin.Given as goal

abbrev pub invariant-loop-made : goal.invariant-loop-made
invariant-loop-made l = l.lines.items ≡ line 1 1 (Creat 3 (codes "shared")) ∷ map (λ child. line child 1 (Fork child)) (range_with_len 2 l.made)
