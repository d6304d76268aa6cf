use Rattle.std.proofs.Common.{◌∙◌, ◌++◌, ◌∷◌, [], ℕ, List, map, ap, sym, subst, arith}
use Rattle.std.proofs.lemmas.List.{take_all, map_more}
use Rattle.pass_clean.specs.Blocks.{AreListed}
use Rattle.pass_file.specs.BlockSets.{is_among}
use Rattle.pass_file.proofs.Copying.{copy_of, listed_copies}
use Rattle.pass_file.proofs.digests.copies.Goals as goal

pub loop-i-preserved : goal.loop-i-preserved
loop-i-preserved c =
    let blocks = c.args.blocks.now in
    let content = c.args.content.now.bytes in
    c.in_ok-push.ensures.items
    ∙ (λ k. c.loop-i.invariant k ++ c.in_ok-copy.ensures k ∷ [])
    ∙ sym (map_more (copy_of content) blocks c.loop-i.i 0 (let test = c.loop-i-test.true in omega (arith, test)))

pub returns : goal.returns
returns c =
    let blocks = c.args.blocks.now in
    let content = c.args.content.now.bytes in
    let is = c.loop-i.invariant ∙ ap (map (copy_of content)) (take_all c.loop-i.i blocks (let test = c.loop-i-test.false in omega (arith, test))) in
    subst (λ (copies : List (ℕ × List ℕ)). AreListed (is_among blocks) content 1024 copies) (sym is) (listed_copies blocks content c.requires.rising c.requires.below)
