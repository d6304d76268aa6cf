use Rattle.std.proofs.Common.{subst}
use Rattle.std.specs.Prelude.{IfOk}
use Rattle.std.proofs.lemmas.Result.{IfOk-weaker}
use Rattle.pass_plain.specs.Recording.{block_count}
use Rattle.pass_clean.specs.Blocks.{AreDirty, AreListed}
use Rattle.pass_clean.specs.Cleaned.{is_dirty}
use Rattle.pass_file.specs.Desks.{FileDeskView}
use Rattle.pass_file.proofs.Dirtier.{dirty_blocks}
use Rattle.pass_file.proofs.desk.FileDesk.dirty.Goals as goal

pub returns-clause-dirty : goal.returns-clause-dirty
returns-clause-dirty g c =
    let S = g.J.Whose.book.session in
    let d = c.self.inside.desk in
    let i = c.self.invariant.content in
    subst (λ (v : FileDeskView). IfOk c.dirty_bytes.result (λ blocks. AreDirty S v.seen v.syncs v.what blocks.items)) c.self.view_is
    (IfOk-weaker c.dirty_bytes.result (λ blocks. AreListed (is_dirty S d.seen d.syncs d.what) c.self.inside.state.bytes block_count blocks.items) (λ blocks. AreDirty S d.seen d.syncs d.what blocks.items)
    (λ blocks are. dirty_blocks S d.seen d.syncs d.what c.self.inside.state.bytes blocks.items i.bytes are) (c.dirty_bytes.ensures (is_dirty S d.seen d.syncs d.what) i.dirty))
