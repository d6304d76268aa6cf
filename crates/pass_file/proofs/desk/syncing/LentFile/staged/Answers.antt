use Rattle.std.proofs.Common.{ap, sym, ◌∙◌, subst}
use mathlib.Core.List.{IsPrefix}
use Rattle.pass_plain.specs.Lawful.{AgreeOn}
use Rattle.pass_plain.specs.Legal.{IsLegal}
use Rattle.pass_book.specs.Syncs.{numbers_of}
use Rattle.pass_book.specs.Tokens.{BookId, DeskState}
use Rattle.pass_file.specs.Desks.{FileDeskView, IsFile, IsStagedLast}
use Rattle.pass_file.specs.FileViews.{FileView}
use Rattle.pass_file.proofs.Staging.{file_staged}
use Rattle.pass_file.proofs.desk.syncing.LentFile.staged.Goals as goal

pub invariant_of-result : goal.invariant_of-result
invariant_of-result g c =
    let B = g.J.Whose.book in
    let lent : DeskState = c.self.inside.lent.value in
    let seen = sym c.self.view_is in
    let blocks = numbers_of c.args.blocks.now in
    let e = c.clean_blocks.ensures in
    subst (λ (f : FileView). IsFile B c.args.desk c.self.inside.number f) (sym e.state)
    (file_staged B lent c.args.desk c.self.inside.number c.self.inside.state blocks c.clean_blocks.new.state.dirty c.self.invariant c.requires.desk.0
    (c.requires.desk.1 ∙ ap (λ (v : FileDeskView). v.what) seen)
    (subst (λ (v : FileDeskView). IsPrefix v.seen c.args.desk.seen) seen c.requires.seen.0) (subst (λ (v : FileDeskView). AgreeOn v.what v.seen c.args.desk.seen) seen c.requires.seen.1)
    (subst (λ (v : FileDeskView). IsStagedLast v.what v.number blocks c.args.desk.seen v.syncs c.args.desk.syncs) seen c.requires.staged)
    (subst (λ (b : BookId). IsLegal b.session c.args.desk.seen) c.requires.desk.0 c.seen.ensures.legal) c.requires.few e.dirty)
