use Rattle.std.proofs.Common.{◌≡◌, List, subst}
use Rattle.pass_entry.specs.declared.entry.Entry.{Entry}
use Rattle.pass_plain.specs.Legal.{IsLegal}
use Rattle.pass_plain.specs.Sound.{IsSound}
use Rattle.pass_book.specs.Syncs.{IsBacked}
use Rattle.pass_book.specs.Tokens.{BookState}
use Rattle.pass_book.specs.Views.{session_in}
use Rattle.pass_book.proofs.Badges.{past_sound, past_legal}
use Rattle.pass_book.proofs.book.Book.into_history.Goals as goal

pub returns-clause-sound : goal.returns-clause-sound
returns-clause-sound c = subst (λ (b : BookState). IsSound b.book.session) c.self.view_is (past_sound _ _ _ c.self.invariant.0.past)

pub returns-clause-legal : goal.returns-clause-legal
returns-clause-legal c = subst (λ (b : BookState). IsLegal b.book.session b.history) c.self.view_is (past_legal _ _ _ c.self.invariant.0.past)

pub returns-clause-backed : goal.returns-clause-backed
returns-clause-backed c =
    let v = c.self.inside.seat.me.0 in
    let here = subst (λ (h : List Entry). IsBacked (session_in v.opened) h v.syncs) c.self.invariant.0.seen c.back.ensures.backed in
    subst (λ (b : BookState). IsBacked b.book.session b.history b.syncs) c.self.view_is here
