use Rattle.std.proofs.Common.{length, ap, length-take, arith}
use Rattle.pass_outside.specs.declared.blocks.TheConstants.{BLOCK}
use Rattle.pass_outside.proofs.Flat.{length-flat}
use Rattle.pass_outside.proofs.content.Content.read_into.Goals as goal

pub read_blocks-requires-clause-fits : goal.read_blocks-requires-clause-fits
read_blocks-requires-clause-fits c =
    omega (arith, length-flat BLOCK c.self.inside.blocks.items c.self.invariant.within, c.self.invariant.enough, c.if-self-at.false, c.min-count.ensures, length-take c.min-count.result c.args.into.now, ap length c.deref.ensures.value)
