use Rattle.std.proofs.Common.{◌≡◌, false, get_or, refl, ap, ◌∙◌, arith}
use Rattle.std.proofs.lemmas.Grind.{common_steps}
use Rattle.pass_report.proofs.Flagging.{set_flag, keep_flag}
use Rattle.pass_report.proofs.blocks.row_flags.Goals as goal
use Rattle.pass_report.proofs.blocks.row_flags.Goals.{then-block-lt-BLOCK_COUNT, else-block-lt-BLOCK_COUNT}

pub loop-block-preserved : goal.loop-block-preserved
loop-block-preserved c =
    let rows = c.loop-block.rows.items in
    let blocks = c.args.blocks.now in
    let i = c.loop-block.block-index in
    let b = get_or blocks i 0 in
    elim c.if-block-lt-BLOCK_COUNT.branch [
      | then-block-lt-BLOCK_COUNT w ↦ record {
        whole = grind (arith, common_steps);
        same = λ k below. let set = set_flag rows blocks i b k c.loop-block-test.true refl (omega arith) (c.loop-block.invariant.same k below) in ap (λ v. get_or v.items k false) w.rows-is ∙ set;
      }
      | else-block-lt-BLOCK_COUNT w ↦ record {
        whole = grind (arith, common_steps);
        same = λ k below. let kept = keep_flag rows blocks i b k c.loop-block-test.true refl (λ (is : b ≡ k). absurd (omega arith)) (c.loop-block.invariant.same k below) in ap (λ v. get_or v.items k false) w.rows-is ∙ kept;
      }
    ]
