use Rattle.std.proofs.Common.{◌∙◌, ℕ, List, Vec, Global, Bool, ap}
use Rattle.std.proofs.lemmas.Result.{IfOk-weaker}
use Rattle.pass_plain.specs.Recording.{block_count}
use Rattle.pass_clean.specs.Blocks.{AreListed}
use Rattle.pass_file.specs.BlockSets.{is_among}
use Rattle.pass_file.specs.FileViews.{FileView}
use Rattle.pass_file.proofs.Turning.{flag_is, listed_same}
use Rattle.pass_file.proofs.state.FileState.dirty_bytes.Goals as goal

pub returns : goal.returns
unfolding block_count
returns c = λ (was : ℕ → Bool) dirty.
    let i = c.self.inside in
    let slice = c.as_slice.result.now in
    IfOk-weaker c.copies.result (λ (copies : Vec (ℕ × List ℕ) Global). AreListed (is_among slice) i.content.bytes block_count copies.items) (λ (copies : Vec (ℕ × List ℕ) Global). AreListed was c.args.self.now.bytes block_count copies.items) (λ copies are.
    listed_same (is_among slice) was i.content.bytes c.args.self.now.bytes block_count copies.items (ap (λ (w : FileView). w.bytes) c.self.view_is)
    (λ b low.
    ap (λ (xs : List ℕ). is_among xs b) c.as_slice.ensures.blocks ∙ flag_is (is_among i.dirty.blocks) was block_count b (ap (λ (w : FileView). w.dirty) c.self.view_is ∙ dirty) low)
    are) c.copies.ensures
