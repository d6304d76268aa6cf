use Rattle.std.proofs.Common.{◌≡◌, false, subst}
use Rattle.pass_plain.specs.Legal.{IsLegal}
use Rattle.pass_plain.specs.Processes.{has_ended}
use Rattle.pass_book.specs.Tokens.{LastState}
use Rattle.pass_book.proofs.Badges.{past_legal}
use Rattle.pass_book.proofs.Living.{lives}
use Rattle.pass_book.proofs.tokens.Last.seen.Goals as goal

pub returns-clause-legal : goal.returns-clause-legal
returns-clause-legal c = subst (λ (l : LastState). IsLegal l.book.session l.seen) c.self.view_is (past_legal _ _ _ c.seen.ensures.past)

pub returns-clause-lives : goal.returns-clause-lives
returns-clause-lives c = subst (λ (l : LastState). has_ended l.seen l.what ≡ false) c.self.view_is (lives c.self.inside.sight.seen c.self.inside.sight.name.number c.self.invariant.1)
