use Rattle.std.proofs.Common.{ap, subst}
use Rattle.pass_plain.specs.Sound.{IsSound}
use Rattle.pass_book.specs.Tokens.{BookId, DeskState}
use Rattle.pass_proc.proofs.Beginnings.{first_number, first_process}
use Rattle.pass_proc.proofs.proc.Proc.first.Goals as goal

pub begin-proc-requires-clause-process : goal.begin-proc-requires-clause-process
begin-proc-requires-clause-process g c =
    let d = c.parted-desk.ensures.desk in
    let sound = subst (λ (b : BookId). IsSound b.session) (ap (λ (d : DeskState). d.book) c.requires.desk) c.seen.ensures.sound in
    first_process g.J.Whose.book.session c.args.pnode sound c.in-Ok.ensures.legal c.parted-desk.result.0.what c.parted-desk.result.0.seen c.new.result c.new-versions.result
    (ap (λ (d : DeskState). d.what) d) (ap (λ (d : DeskState). d.seen) d) c.new.ensures c.new-versions.ensures

pub returns-clause-number : goal.returns-clause-number
returns-clause-number g c = first_number g.J.Whose.book.session c.args.pnode c.in-Ok.ensures.legal
