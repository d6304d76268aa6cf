use Rattle.std.proofs.Common.{subst}
use Rattle.pass_plain.specs.Legal.{IsLegal}
use Rattle.pass_plain.specs.Sound.{IsSound}
use Rattle.pass_book.specs.Tokens.{DeskState}
use Rattle.pass_book.proofs.Badges.{past_sound, past_legal}
use Rattle.pass_book.proofs.tokens.Desk.seen.Goals as goal

pub returns-clause-sound : goal.returns-clause-sound
returns-clause-sound c = subst (λ (d : DeskState). IsSound d.book.session) c.self.view_is (past_sound _ _ _ c.seen.ensures.past)

pub returns-clause-legal : goal.returns-clause-legal
returns-clause-legal c = subst (λ (d : DeskState). IsLegal d.book.session d.seen) c.self.view_is (past_legal _ _ _ c.seen.ensures.past)
