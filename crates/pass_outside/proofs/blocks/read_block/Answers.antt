use Rattle.std.proofs.Common.{◌≡◌, ℕ, ◌-◌, List, ◌++◌, length, take, drop, replicate, sym, ◌∙◌, ap, arith}
use Rattle.std.proofs.lemmas.List.{drop-replicate}
use Rattle.pass_outside.specs.declared.blocks.TheConstants.{BLOCK}
use Rattle.pass_outside.proofs.Flat.{read_padded}
use Rattle.pass_outside.proofs.blocks.read_block.Goals as goal

pub returns : goal.returns
returns c =
    let count = c.min-count.result in
    let block = c.args.block.now in
    let n = length c.args.into.now in
    let zeros : drop count c.clear.new.bytes ≡ replicate (n - count) 0 = ap (drop count) c.clear.ensures ∙ drop-replicate count n 0 in
    let front : c.copy_from_slice.new.self ≡ take count (drop c.min-start.result block) =
    c.copy_from_slice.ensures.after ∙ ap (λ (k : ℕ). take k (drop c.min-start.result block)) (omega arith) in
    ap (λ (l : List ℕ). l ++ drop count c.clear.new.bytes) front ∙ ap (λ (l : List ℕ). take count (drop c.min-start.result block) ++ l) zeros
    ∙ sym (read_padded BLOCK block c.args.from n c.min-start.result count c.requires.within c.requires.fits c.min-start.ensures c.min-count.ensures)
