use Rattle.std.proofs.Common.{◌≡◌, ◌≤◌, ◌<◌, ◌+◌, ◌*◌, ◌/◌, ◌%◌, ℕ, List, length, take, drop, ap, ◌∙◌, arith}
use Rattle.pass_outside.specs.declared.blocks.TheConstants.{BLOCK}
use Rattle.pass_outside.specs.Blocks.{padded, over}
use Rattle.pass_outside.proofs.Flat.{Block, within_at, read_more}
use Rattle.pass_outside.proofs.blocks.read_blocks.Goals as goal

pub read_part-requires-clause-within : goal.read_part-requires-clause-within
read_part-requires-clause-within c =
    let bs = c.args.blocks.now in
    let b = c.index-blocks-place.result in
    let i = (c.args.at + c.pieces.done) / BLOCK in
    let le : i < length bs = omega (arith, c.requires.fits, c.pieces-test.true, c.pieces.auto.into) in
    omega (arith, within_at BLOCK bs i b c.requires.within le, ap (λ (x : Block). length x.items) c.index-blocks-place.is, ap length c.deref.ensures.value)

pub pieces-preserved : goal.pieces-preserved
pieces-preserved c =
    let bs = c.args.blocks.now in
    let b = c.index-blocks-place.result in
    let at = c.args.at in
    let done = c.pieces.done in
    let count = c.min-count.result in
    let i = (at + done) / BLOCK in
    let o = (at + done) % BLOCK in
    let le : i < length bs = omega (arith, c.requires.fits, c.pieces-test.true, c.pieces.auto.into) in
    let fits : o + count ≤ BLOCK = omega (arith, c.min-count.ensures) in
    let place : BLOCK * i + o ≡ at + done = omega arith in
    let room : done + count ≤ length c.pieces.into = omega (arith, c.min-count.ensures, c.pieces.invariant.within) in
    let new : c.read_part.new.into ≡ over c.pieces.into done (take count (drop o (padded BLOCK b.items))) =
    c.read_part.ensures ∙ ap (λ (l : List ℕ). over c.pieces.into done (take count (drop o (padded BLOCK l)))) c.deref.ensures.value in
    record {
      within = omega (arith, room, c.read_part.auto.into);
      read = read_more BLOCK bs i o at done count c.pieces.into c.read_part.new.into b c.requires.within le fits c.index-blocks-place.is place room new c.pieces.invariant.read;
    }
