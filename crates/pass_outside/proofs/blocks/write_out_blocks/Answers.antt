use Rattle.std.proofs.Common.{◌≡◌, ◌≢◌, ⊎_elim, ◌≤◌, ◌<◌, ℕ, List, length, get_or, ap, ◌∙◌, arith}
use Rattle.pass_outside.specs.declared.blocks.TheConstants.{BLOCK}
use Rattle.pass_outside.specs.Blocks.{padded, AreWithin}
use Rattle.pass_outside.proofs.Flat.{Block, within_at, within_set, same_block, padded_grown, grown_whole, held_elsewhere, whole_more}
use Rattle.pass_outside.proofs.blocks.write_out_blocks.Goals as goal

-- the length of the block that is written out
short : (bs : List Block) (i : ℕ) (b : Block) → AreWithin BLOCK bs → i < length bs → b ≡ get_or bs i b → length b.items ≤ BLOCK
short bs i b within le is = omega (arith, ap (λ (x : Block). length x.items) is, within_at BLOCK bs i b within le)

pub returns-in_err-write_out-clause-within : goal.returns-in_err-write_out-clause-within
returns-in_err-write_out-clause-within c =
    let bs = c.parts.blocks.items in
    let le : c.parts.next < length bs = omega (arith, c.parts-test.true, c.requires.end, c.parts.invariant.count, c.parts.blocks.ok.0) in
    let b = c.index_mut.result.now in
    within_set BLOCK bs c.parts.next c.write_out.new.block c.parts.invariant.within
    (omega (arith, ap length c.in_err-write_out.ensures.err, short bs c.parts.next b c.parts.invariant.within le c.index_mut.ensures.value))

pub returns-in_err-write_out-clause-same : goal.returns-in_err-write_out-clause-same
returns-in_err-write_out-clause-same c =
    let bs = c.parts.blocks.items in
    let le : c.parts.next < length bs = omega (arith, c.parts-test.true, c.requires.end, c.parts.invariant.count, c.parts.blocks.ok.0) in
    same_block BLOCK bs c.parts.next c.index_mut.result.now c.write_out.new.block c.parts.invariant.within le c.index_mut.ensures.value (ap (padded BLOCK) c.in_err-write_out.ensures.err) ∙ c.parts.invariant.same

pub returns-in_err-write_out-clause-elsewhere : goal.returns-in_err-write_out-clause-elsewhere
returns-in_err-write_out-clause-elsewhere c = λ k away.
    let other : k ≢ c.parts.next = ⊎_elim (λ less. omega (arith, less, c.parts.invariant.from)) (λ more. omega (arith, more, c.parts-test.true)) away in
    held_elsewhere c.parts.blocks.items c.parts.next k c.write_out.new.block other ∙ c.parts.invariant.elsewhere k away

pub parts-preserved : goal.parts-preserved
parts-preserved c =
    let bs = c.parts.blocks.items in
    let b = c.index_mut.result.now in
    let new = c.write_out.new.block in
    let le : c.parts.next < length bs = omega (arith, c.parts-test.true, c.requires.end, c.parts.invariant.count, c.parts.blocks.ok.0) in
    let fits : length b.items ≤ BLOCK = short bs c.parts.next b c.parts.invariant.within le c.index_mut.ensures.value in
    let whole : length new.items ≡ BLOCK = grown_whole BLOCK b.items new.items fits c.in_ok-write_out.ensures.ok in
    record {
      within = within_set BLOCK bs c.parts.next new c.parts.invariant.within (omega (arith, whole));
      same = same_block BLOCK bs c.parts.next b new c.parts.invariant.within le c.index_mut.ensures.value (padded_grown BLOCK b.items new.items fits c.in_ok-write_out.ensures.ok) ∙ c.parts.invariant.same;
      count = c.parts.invariant.count;
      from = omega (arith, c.parts.invariant.from);
      elsewhere = λ k away.
          let other : k ≢ c.parts.next = ⊎_elim (λ less. omega (arith, less, c.parts.invariant.from)) (λ more. omega (arith, more, c.parts-test.true)) away in
          held_elsewhere bs c.parts.next k new other ∙ c.parts.invariant.elsewhere k away;
      whole = whole_more BLOCK bs c.args.first c.parts.next new le whole c.parts.invariant.whole;
    }
