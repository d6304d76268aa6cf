use Rattle.std.proofs.Common.{◌+◌, [], ◌∷◌, refl}
use Rattle.std.specs.Prelude.{codes}
use Rattle.pass_trace.specs.declared.trace.Command.TheVariants.{Creat, Fork}
use Rattle.pass_gen.specs.Generated.{line}
use Rattle.pass_gen.proofs.begin.Goals as goal
use Rattle.pass_entry.proofs.Places.{range_more}

pub loop-made-preserved : goal.loop-made-preserved
loop-made-preserved c =
    range_more (λ child. line child 1 (Fork child)) 2 c.loop-made.made (2 + c.loop-made.made) (line 1 1 (Creat 3 (codes "shared")) ∷ []) c.loop-made.lines.items c.push-in-loop-made.new.self.items c.line_of-in-loop-made.result refl c.loop-made.invariant c.in_ok-push-2.ensures.items c.line_of-in-loop-made.ensures
