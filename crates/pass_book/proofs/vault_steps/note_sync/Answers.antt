use Rattle.pass_book.proofs.Vaulting.{syncs_at}
use Rattle.pass_book.specs.Views.{opened_by}
use Rattle.pass_book.proofs.vault_steps.note_sync.Goals as goal

pub fetch_max-requires : goal.fetch_max-requires
fetch_max-requires g c =
    let at = c.requires.at in
    let t = c.args.table.now in
    let v = c.args.vault.now in
    (at.same, at.words, syncs_at (opened_by t.key) t.table_id.slots v.id v.me g.Y.Syncing.sync c.args.entries c.requires.number at.named c.requires.calls c.requires.entries.0 c.requires.entries.1 c.requires.file)
