use Rattle.std.proofs.Common.{◌≡◌, ◌<◌, length, take, arith, rules}
use Rattle.pass_outside.specs.declared.blocks.TheConstants.{BLOCK}
use Rattle.pass_outside.specs.Blocks.{flat, held}
use Rattle.pass_outside.proofs.Flat.{copy_more, flat_same, held_same}
use Rattle.pass_outside.proofs.blocks.copy_blocks.Goals as goal

pub loop-block-preserved : goal.loop-block-preserved
loop-block-preserved c =
    let bs = c.args.blocks.now in
    let i = c.loop-block.block-index in
    let le : i < length bs = omega (arith, c.loop-block-test.true) in
    let b = c.block-item.result in
    let new = c.in_ok-to_vec.field-0 in
    let same : new.items ≡ b.items = search rules in
    record {
      same = copy_more (flat BLOCK) bs c.loop-block.copy.items c.push.new.self.items i b new le c.block-item.is c.in_ok-push.ensures.items (flat_same BLOCK c.loop-block.copy.items (take i bs) new b c.loop-block.invariant.same same);
      held = copy_more held bs c.loop-block.copy.items c.push.new.self.items i b new le c.block-item.is c.in_ok-push.ensures.items (held_same c.loop-block.copy.items (take i bs) new b c.loop-block.invariant.held same);
    }
