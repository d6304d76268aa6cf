use Rattle.std.proofs.Common.{arith}
use Rattle.pass_outside.specs.declared.blocks.TheConstants.{BLOCK}
use Rattle.pass_outside.proofs.Flat.{length-flat}
use Rattle.pass_outside.proofs.content.Content.cut.Goals as goal

pub cut_blocks-requires-clause-fits : goal.cut_blocks-requires-clause-fits
cut_blocks-requires-clause-fits c =
    omega (arith, length-flat BLOCK c.self.inside.blocks.items c.self.invariant.within, c.self.invariant.enough, c.if-len-self.true, c.self.inside.blocks.ok.0)
