use Rattle.std.proofs.Common.{subst}
use Rattle.pass_plain.specs.Legal.{IsLegal}
use Rattle.pass_book.specs.Syncs.{IsBacked}
use Rattle.pass_book.specs.Tokens.{BookId, BookState}
use Rattle.pass_hold.proofs.shelf.Shelf.into_history.Goals as goal

pub returns-clause-legal : goal.returns-clause-legal
returns-clause-legal g c =
    subst (λ (s : BookState). IsLegal g.J.Whose.book.session s.history) c.self.view_is
    (subst (λ (b : BookId). IsLegal b.session c.self.inside.book.history) c.self.invariant.0 c.into_history.ensures.legal)

pub returns-clause-backed : goal.returns-clause-backed
returns-clause-backed g c =
    subst (λ (s : BookState). IsBacked g.J.Whose.book.session s.history s.syncs) c.self.view_is
    (subst (λ (b : BookId). IsBacked b.session c.self.inside.book.history c.self.inside.book.syncs) c.self.invariant.0 c.into_history.ensures.backed)
