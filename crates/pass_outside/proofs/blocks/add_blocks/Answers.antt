use Rattle.std.proofs.Common.{◌+◌, length, sym, subst, ap, arith}
use Rattle.pass_outside.specs.declared.blocks.TheConstants.{BLOCK}
use Rattle.pass_outside.specs.Blocks.{AreWithin}
use Rattle.pass_outside.proofs.Flat.{within_more, more_zeros}
use Rattle.pass_outside.proofs.blocks.add_blocks.Goals as goal

pub more-preserved : goal.more-preserved
more-preserved c =
    let bs = c.more.blocks.items in
    let grown = c.in_ok-push.ensures.items in
    let none = c.new.ensures.items in
    record {
      within = subst (AreWithin BLOCK) (sym grown) (within_more BLOCK bs c.new.result c.more.invariant.within (omega (arith, ap length none)));
      zeros = (c.more.invariant.zeros.0 + BLOCK, more_zeros BLOCK c.args.blocks.now.items bs c.push.new.self.items c.new.result c.more.invariant.zeros.0 grown none c.more.invariant.zeros.1);
    }
