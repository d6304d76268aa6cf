use Rattle.std.proofs.Common.{subst}
use Rattle.pass_plain.specs.Legal.{IsLegal}
use Rattle.pass_plain.specs.Sound.{IsSound}
use Rattle.pass_book.specs.Syncs.{IsRising}
use Rattle.pass_book.specs.Tokens.{VaultState}
use Rattle.pass_book.proofs.Badges.{past_sound, past_legal, past_rising}
use Rattle.pass_book.proofs.vault.VaultSeat.seen.Goals as goal

pub returns-clause-sound : goal.returns-clause-sound
returns-clause-sound c = subst (λ (v : VaultState). IsSound v.book.session) c.self.view_is (past_sound _ _ _ c.self.invariant.0.past.past)

pub returns-clause-legal : goal.returns-clause-legal
returns-clause-legal c = subst (λ (v : VaultState). IsLegal v.book.session v.seen) c.self.view_is (past_legal _ _ _ c.self.invariant.0.past.past)

pub returns-clause-rising : goal.returns-clause-rising
returns-clause-rising c = subst (λ (v : VaultState). IsRising v.syncs) c.self.view_is (past_rising _ _ _ c.self.invariant.0.past.past)
