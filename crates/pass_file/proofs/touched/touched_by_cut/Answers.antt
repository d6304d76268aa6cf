use Rattle.std.proofs.Common.{◌∙◌, ◌&&◌, ℕ, ap, sym, subst}
use Rattle.std.specs.Prelude.{nat_lt}
use Rattle.pass_plain.specs.Recording.{is_resized}
use Rattle.pass_file.specs.BlockSets.{is_among, AreBelow}
use Rattle.pass_file.proofs.Resizing.{touch_cut}
use Rattle.pass_file.proofs.touched.touched_by_cut.Goals as goal

pub edge_of-requires-clause-below : goal.edge_of-requires-clause-below
edge_of-requires-clause-below c = subst (AreBelow c.args.rows.now.blocks) (sym c.size.ensures) c.requires.below

pub returns : goal.returns
returns c = λ (out : ℕ).
    let a = c.args in
    let rows = a.rows.now.blocks in
    touch_cut a.content.now.bytes rows c.requires.below out a.size c.edge_of.result c.requires.small c.requires.limit
    (λ b. c.edge_of.ensures.same b ∙ ap (λ n. is_resized n a.size (is_among rows b) b && nat_lt b 1024) c.size.ensures) c.edge_of.ensures.below
