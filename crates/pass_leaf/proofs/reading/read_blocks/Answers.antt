use Rattle.std.proofs.Common.{◌≡◌, ◌+◌, ◌<◌, ℕ, List, ◌++◌, ◌∷◌, [], length, ap, sym, subst, arith, length-append}
use Rattle.pass_leaf.specs.declared.leaf.LeafBlock.{LeafBlock}
use Rattle.pass_leaf.proofs.Blocks.{IsReading, reading_more, reading_stops}
use Rattle.pass_leaf.proofs.reading.read_blocks.Goals as goal

pub returns-in-Err-clause-bad : goal.returns-in-Err-clause-bad
returns-in-Err-clause-bad c = λ is.
    let few : length c.loop.blocks.items < c.args.count = omega (arith, c.loop-test.true, c.loop.invariant.count) in
    reading_stops c.args.size c.loop.from c.args.count c.args.cursor.now c.loop.cursor c.loop.blocks.items c.loop.invariant.reading few (c.in-Err.ensures.bad is)

pub loop-preserved : goal.loop-preserved
loop-preserved c =
    let size = c.args.size in
    let old = c.args.cursor.now in
    let after = c.read_block.new.cursor in
    let blocks = c.loop.blocks.items in
    let b = c.in-Ok.block in
    let more = reading_more size c.loop.from old c.loop.cursor after blocks b c.loop.invariant.reading c.in-Ok.ensures.fits c.in-Ok.ensures.taken in
    let place : b.number + 1 ≡ c.from-from.result + 1 = omega (arith, c.from-from.ensures) in
    record {
      reading = subst (λ (l : List LeafBlock). IsReading size (c.from-from.result + 1) old after l) (sym c.in_ok-push.ensures.items) (subst (λ (n : ℕ). IsReading size n old after (blocks ++ b ∷ [])) place more);
      count = omega (arith, ap length c.in_ok-push.ensures.items, length-append blocks (b ∷ []), c.loop.invariant.count);
    }
