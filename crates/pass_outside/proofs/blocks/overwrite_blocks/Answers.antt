use Rattle.std.proofs.Common.{◌≡◌, ◌≤◌, ◌<◌, ◌+◌, ◌-◌, ◌*◌, ◌/◌, ◌%◌, ℕ, List, ◌++◌, length, take, drop, get_or, sym, subst, ap, ◌∙◌, arith, length-take, length-drop}
use Rattle.std.proofs.Math.Seq.{take-add}
use Rattle.pass_outside.specs.declared.blocks.TheConstants.{BLOCK}
use Rattle.pass_outside.specs.Blocks.{flat, held, over, AreWithin}
use Rattle.pass_outside.proofs.Flat.{Block, held_at, held_kept, write_more, length-over}
use Rattle.pass_outside.proofs.blocks.overwrite_blocks.Goals as goal

pub overwrite-requires : goal.overwrite-requires
overwrite-requires c =
    let bs = c.pieces.blocks.items in
    let i = (c.args.at + c.pieces.done) / BLOCK in
    let whole : get_or (held bs) i 0 ≡ BLOCK = ap (λ (l : List ℕ). get_or l i 0) c.pieces.invariant.held ∙ c.requires.whole i (omega arith) (omega (arith, c.pieces-test.true)) in
    let le : i < length bs = omega (arith, c.requires.fits, c.pieces.invariant.count, c.pieces-test.true, c.pieces.blocks.ok.0) in
    let long : length c.index_mut.result.now.items ≡ BLOCK = ap (λ (x : Block). length x.items) c.index_mut.ensures.value ∙ sym (held_at bs i c.index_mut.result.now le) ∙ whole in
    omega (arith, long, c.index_mut.result.now.ok.0, c.min-count.ensures, length-take (c.pieces.done + c.min-count.result - c.pieces.done) (drop c.pieces.done c.args.bytes.now), length-drop c.pieces.done c.args.bytes.now)

pub pieces-preserved : goal.pieces-preserved
pieces-preserved c =
    let bs = c.pieces.blocks.items in
    let first = c.args.blocks.now.items in
    let bytes = c.args.bytes.now in
    let done = c.pieces.done in
    let count = c.min-count.result in
    let i = (c.args.at + done) / BLOCK in
    let o = (c.args.at + done) % BLOCK in
    let piece = take (done + count - done) (drop done bytes) in
    let b = c.index_mut.result.now in
    let new = c.overwrite.new.block in
    let within : AreWithin BLOCK bs = λ k. subst (λ (l : List ℕ). get_or l k 0 ≤ BLOCK) (sym c.pieces.invariant.held) (c.requires.within k) in
    let whole : get_or (held bs) i 0 ≡ BLOCK = ap (λ (l : List ℕ). get_or l i 0) c.pieces.invariant.held ∙ c.requires.whole i (omega arith) (omega (arith, c.pieces-test.true)) in
    let le : i < length bs = omega (arith, c.requires.fits, c.pieces.invariant.count, c.pieces-test.true, c.pieces.blocks.ok.0) in
    let old : length b.items ≡ BLOCK = ap (λ (x : Block). length x.items) c.index_mut.ensures.value ∙ sym (held_at bs i b le) ∙ whole in
    let long : length piece ≡ count = length-take (done + count - done) (drop done bytes) ∙ omega (arith, length-drop done bytes, c.min-count.ensures) in
    let fits : o + length piece ≤ BLOCK = omega (arith, long, c.min-count.ensures) in
    let size : length new.items ≡ BLOCK = ap length c.overwrite.ensures.after ∙ length-over b.items o piece (omega (arith, old, fits)) ∙ old in
    let same : length bs ≡ length first = omega (arith, c.pieces.invariant.count, c.pieces.blocks.ok.0, c.args.blocks.now.ok.0) in
    let so_far : length (take done bytes) ≡ done = length-take done bytes ∙ omega (arith, c.pieces.invariant.within) in
    let room : c.args.at + length (take done bytes) + length piece ≤ BLOCK * length first = omega (arith, so_far, long, c.min-count.ensures, c.requires.fits, c.args.blocks.now.ok.0) in
    let place : BLOCK * i + o ≡ c.args.at + length (take done bytes) = omega (arith, so_far) in
    let joins : take done bytes ++ piece ≡ take (done + count) bytes = ap (λ (k : ℕ). take done bytes ++ take k (drop done bytes)) (omega arith) ∙ sym (take-add done count bytes) in
    record {
      within = omega (arith, c.min-count.ensures);
      held = held_kept BLOCK bs i new size whole ∙ c.pieces.invariant.held;
      count = c.pieces.invariant.count;
      written = write_more BLOCK bs first i o c.args.at (take done bytes) piece new b within c.requires.within same le whole fits c.index_mut.ensures.value c.overwrite.ensures.after place room c.pieces.invariant.written
          ∙ ap (over (flat BLOCK first) c.args.at) joins;
    }
