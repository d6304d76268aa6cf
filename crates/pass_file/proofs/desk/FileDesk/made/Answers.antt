use Rattle.std.proofs.Common.{◌≡◌, ap, sym, ◌∙◌, subst, [], false}
use Rattle.pass_plain.specs.Lawful.{AgreeOn}
use Rattle.pass_plain.specs.Legal.{IsLegal}
use Rattle.pass_plain.specs.Sessions.{is_opened}
use Rattle.pass_book.specs.Numbers.{IsFileNumber}
use Rattle.pass_book.specs.Tokens.{BookId}
use Rattle.pass_file.specs.Desks.{IsFile}
use Rattle.pass_file.specs.FileViews.{FileView}
use Rattle.pass_file.proofs.Beginnings.{file_made, new_file}
use Rattle.pass_file.proofs.desk.FileDesk.made.Goals as goal

pub invariant_of-result : goal.invariant_of-result
invariant_of-result g c =
    let B = g.J.Whose.book in
    let what = sym c.requires.desk.1 in
    subst (λ (f : FileView). IsFile B c.args.desk c.args.number f) (sym (c.made.ensures ∙ ap new_file what))
    (file_made B c.args.desk c.args.number c.requires.desk.0 (subst (λ o. is_opened B.session.start o ≡ false) what c.requires.new)
    (subst (λ (b : BookId). IsLegal b.session c.args.desk.seen) c.requires.desk.0 c.seen.ensures.legal) (subst (λ o. AgreeOn o [] c.args.desk.seen) what c.requires.idle)
    (subst (λ o. IsFileNumber B.session c.args.desk.seen o c.args.number) what c.requires.number) c.requires.few)
