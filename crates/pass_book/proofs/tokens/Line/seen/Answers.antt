use Rattle.std.proofs.Common.{subst}
use Rattle.pass_plain.specs.Legal.{IsLegal}
use Rattle.pass_book.specs.Tokens.{LineState}
use Rattle.pass_book.proofs.Badges.{past_legal}
use Rattle.pass_book.proofs.tokens.Line.seen.Goals as goal

pub returns-clause-legal : goal.returns-clause-legal
returns-clause-legal c = subst (λ (l : LineState). IsLegal l.book.session l.seen) c.self.view_is (past_legal _ _ _ c.seen.ensures.past)
