use Rattle.std.proofs.Common.{[], ap, sym, ◌∙◌, subst}
use Rattle.pass_book.specs.Numbers.{IsFileNumber}
use Rattle.pass_book.specs.Tokens.{DeskState}
use Rattle.pass_plain.specs.Sessions.{opened_file}
use Rattle.pass_session.proofs.Sought.{file_found, file_number}
use Rattle.pass_session.proofs.objects.open_file.Goals as goal

pub opened-requires-clause-file : goal.opened-requires-clause-file
opened-requires-clause-file g c =
    let session = g.J.Whose.book.session in
    ap (opened_file session.start) (ap (λ (d : DeskState). d.what) c.requires.desk) ∙ file_found session c.requires.sound c.args.number c.args.file.now c.requires.file

pub opened-requires-clause-number : goal.opened-requires-clause-number
opened-requires-clause-number g c =
    let session = g.J.Whose.book.session in
    subst (λ n. IsFileNumber session [] n c.args.number) (sym (ap (λ (d : DeskState). d.what) c.requires.desk)) (file_number session c.requires.sound c.args.number c.args.file.now c.requires.file)
