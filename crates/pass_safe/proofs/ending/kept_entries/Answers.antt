use Rattle.pass_safe.proofs.Ends.{other_backs}
use Rattle.pass_safe.proofs.ending.kept_entries.Goals as goal

pub end_sync-requires-clause-kept : goal.end_sync-requires-clause-kept
end_sync-requires-clause-kept g c =
    let a = c.args in
    let q = c.requires in
    let p = a.proc.now in (
      a.descriptor.now.pnode,
      q.kept,
      λ seen told legal state. other_backs g.J.Whose.book.session q.saved.1.sound p.who p.state a.keeping.now.fd a.descriptor.now q.descriptor q.no_file a.saved.receipt.calls a.saved.receipt.entries a.saved.told.syncs seen legal state,
    )
