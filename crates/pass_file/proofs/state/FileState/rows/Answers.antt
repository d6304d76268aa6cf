use Rattle.std.proofs.Common.{ℕ, List, Bool, length, ap, sym, subst}
use Rattle.pass_plain.specs.Recording.{block_count, flags}
use Rattle.pass_file.specs.BlockSets.{is_among, IsRising}
use Rattle.pass_file.specs.FileViews.{FileView, AreSet}
use Rattle.pass_file.proofs.Turning.{set_of}
use Rattle.pass_file.proofs.state.FileState.rows.Goals as goal

pub returns : goal.returns
returns c =
    let i = c.self.inside in
    let v = c.self.invariant in
    let own = c.as_slice.ensures in
    let set = set_of i.rows.blocks (length i.content.bytes) (subst IsRising own.blocks own.rising) v.rows_below v.small in
    subst (λ (set : List Bool). AreSet set c.as_slice.result.now) (ap (λ (w : FileView). w.rows) c.self.view_is)
    (subst (λ (bs : List ℕ). AreSet (flags (is_among i.rows.blocks) block_count) bs) (sym own.blocks) set)
