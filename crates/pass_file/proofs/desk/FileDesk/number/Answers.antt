use Rattle.std.proofs.Common.{subst}
use Rattle.pass_plain.specs.Legal.{IsLegal}
use Rattle.pass_book.specs.Tokens.{BookId}
use Rattle.pass_file.specs.Desks.{FileDeskView}
use Rattle.pass_file.proofs.desk.FileDesk.number.Goals as goal

pub returns-clause-legal : goal.returns-clause-legal
returns-clause-legal g c =
    subst (λ (v : FileDeskView). IsLegal g.J.Whose.book.session v.seen) c.self.view_is
    (subst (λ (b : BookId). IsLegal b.session c.self.inside.desk.seen) c.self.invariant.version.of_book c.seen.ensures.legal)
