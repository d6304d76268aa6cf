use Rattle.std.proofs.Common.{◌∙◌, ◌&&◌, ◌==◌, not, ℕ, Bool, ap}
use Rattle.pass_plain.specs.Recording.{block_count}
use Rattle.pass_file.specs.BlockSets.{is_among}
use Rattle.pass_file.specs.FileViews.{FileView}
use Rattle.pass_file.proofs.Turning.{flags_agree, flag_is}
use Rattle.pass_file.proofs.state.FileState.clean.Goals as goal

pub returns-clause-dirty : goal.returns-clause-dirty
returns-clause-dirty c = λ (was : ℕ → Bool) dirty.
    let i = c.self.inside in
    flags_agree (is_among c.remove.new.self.blocks) (λ b. was b && not (c.args.block == b)) block_count
    (λ b low.
    c.remove.ensures.blocks b
    ∙ ap (λ t. t && not (c.args.block == b)) (flag_is (is_among i.dirty.blocks) was block_count b (ap (λ (w : FileView). w.dirty) c.self.view_is ∙ dirty) low))
