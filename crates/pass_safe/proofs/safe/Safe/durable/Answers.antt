use Rattle.std.proofs.Common.{subst}
use Rattle.pass_plain.specs.Legal.{IsLegal}
use Rattle.pass_book.specs.Tokens.{BookId}
use Rattle.pass_safe.specs.Safes.{SafeView}
use Rattle.pass_safe.proofs.safe.Safe.durable.Goals as goal

pub returns-clause-legal : goal.returns-clause-legal
returns-clause-legal g c =
    let S = g.J.Whose.book.session in
    subst (λ (s : SafeView _). IsLegal S s.vault.seen) c.self.view_is (subst (λ (b : BookId). IsLegal b.session c.self.inside.vault.seen) c.self.invariant.of_book c.durable.ensures.legal)
