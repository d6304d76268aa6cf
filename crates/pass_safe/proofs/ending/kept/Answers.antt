use Rattle.std.proofs.Common.{subst}
use Rattle.pass_book.specs.Numbers.{IsFileNumber}
use Rattle.pass_safe.proofs.Ends.{file_backs}
use Rattle.pass_safe.proofs.ending.kept.Goals as goal

pub end_sync-requires-clause-kept : goal.end_sync-requires-clause-kept
end_sync-requires-clause-kept g c =
    let S = g.J.Whose.book.session in
    let f = c.args.file.now in
    let n = c.number.ensures in (
      f.what,
      c.requires.kept,
      λ seen told legal state. file_backs S n.sound f (subst (λ m. IsFileNumber S f.seen f.what m) n.number n.known) c.args.saved c.requires.saved.begins c.requires.of_file seen told legal,
    )
