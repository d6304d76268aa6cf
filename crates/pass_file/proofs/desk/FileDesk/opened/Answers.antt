use Rattle.std.proofs.Common.{sym, subst}
use Rattle.pass_plain.specs.Sound.{IsSound}
use Rattle.pass_book.specs.Tokens.{BookId}
use Rattle.pass_file.specs.Desks.{IsFile}
use Rattle.pass_file.specs.FileViews.{FileView}
use Rattle.pass_file.proofs.Beginnings.{file_opened, sound_file}
use Rattle.pass_file.proofs.desk.FileDesk.opened.Goals as goal

pub new-requires : goal.new-requires
new-requires g c = sound_file g.J.Whose.book.session c.args.desk.what c.args.file.now (subst (λ (b : BookId). IsSound b.session) c.requires.desk.0 c.seen.ensures.sound) c.requires.file

pub invariant_of-result : goal.invariant_of-result
invariant_of-result g c =
    subst (λ (f : FileView). IsFile g.J.Whose.book c.args.desk c.args.number f) (sym c.in_ok-state.ensures)
    (file_opened g.J.Whose.book c.args.desk c.args.number c.args.file.now c.requires.desk.0 c.requires.desk.1 c.requires.file c.requires.number)
