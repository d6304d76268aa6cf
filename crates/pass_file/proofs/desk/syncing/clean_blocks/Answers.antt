use Rattle.std.proofs.Common.{◌∙◌, ◌&&◌, ◌==◌, ℕ, Bool, List, not, take, ap}
use Rattle.std.specs.List.{list_any}
use Rattle.pass_plain.proofs.Replays.{take-next}
use Rattle.pass_book.specs.Syncs.{numbers_of}
use Rattle.pass_file.specs.FileViews.{FileView}
use Rattle.pass_file.proofs.Staging.{one_clean}
use Rattle.pass_file.proofs.desk.syncing.clean_blocks.Goals as goal

pub loop-block-preserved : goal.loop-block-preserved
loop-block-preserved c =
    let blocks : List (ℕ × List ℕ) = c.args.blocks.now in
    let i = c.loop-block.block-index in
    let x : ℕ × List ℕ = c.block-item.result in
    let inv = c.loop-block.invariant in
    record {
      dirty = λ (was : ℕ → Bool) is.
          c.clean.ensures.dirty (λ b. was b && not (list_any (λ n. n == b) (numbers_of (take i blocks)))) (inv.dirty was is)
          ∙ one_clean was blocks i x (take-next blocks i x c.loop-block-test.true c.block-item.is);
      state = c.clean.ensures.state ∙ ap (λ (s : FileView). record s { dirty = c.clean.new.self.dirty }) inv.state;
    }
