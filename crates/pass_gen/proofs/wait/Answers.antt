use Rattle.std.proofs.Common.{◌+◌, refl}
use Rattle.pass_trace.specs.declared.trace.Command.TheVariants.{Wait}
use Rattle.pass_gen.specs.Generated.{line}
use Rattle.pass_gen.proofs.wait.Goals as goal
use Rattle.pass_entry.proofs.Places.{range_more}

pub loop-waited-preserved : goal.loop-waited-preserved
loop-waited-preserved c =
    range_more (λ child. line (7 + c.args.count + child) 1 (Wait child)) 2 c.loop-waited.waited (2 + c.loop-waited.waited) c.args.lines.now.items c.loop-waited.lines.items c.push.new.self.items c.line_of.result refl c.loop-waited.invariant c.in_ok-push.ensures.items c.line_of.ensures
