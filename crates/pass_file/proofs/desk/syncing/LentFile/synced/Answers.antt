use Rattle.std.proofs.Common.{ap, sym, ◌∙◌, subst}
use mathlib.Core.List.{IsPrefix}
use Rattle.pass_plain.specs.Lawful.{AgreeOn}
use Rattle.pass_plain.specs.Legal.{IsLegal}
use Rattle.pass_book.specs.Tokens.{BookId, DeskState}
use Rattle.pass_file.specs.Desks.{FileDeskView, IsFile, IsSyncedLast}
use Rattle.pass_file.specs.FileViews.{FileView}
use Rattle.pass_file.proofs.Seen.{file_synced}
use Rattle.pass_file.proofs.desk.syncing.LentFile.synced.Goals as goal

pub invariant_of-result : goal.invariant_of-result
invariant_of-result g c =
    let B = g.J.Whose.book in
    let lent : DeskState = c.self.inside.lent.value in
    let seen = sym c.self.view_is in
    subst (λ (f : FileView). IsFile B c.args.desk c.self.inside.number f) (sym c.clean_all.ensures)
    (file_synced B lent c.args.desk c.self.inside.number c.self.inside.state c.self.invariant c.requires.desk.0 (c.requires.desk.1 ∙ ap (λ (v : FileDeskView). v.what) seen)
    (subst (λ (v : FileDeskView). IsPrefix v.seen c.args.desk.seen) seen c.requires.seen.0) (subst (λ (v : FileDeskView). AgreeOn v.what v.seen c.args.desk.seen) seen c.requires.seen.1)
    (subst (λ (v : FileDeskView). IsSyncedLast v.what v.number c.args.desk.seen v.syncs c.args.desk.syncs) seen c.requires.synced)
    (subst (λ (b : BookId). IsLegal b.session c.args.desk.seen) c.requires.desk.0 c.seen.ensures.legal) c.requires.few)
