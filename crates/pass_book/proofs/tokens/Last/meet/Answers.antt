use Rattle.std.proofs.Common.{◌≡◌, ℕ, false, sym, ap, ◌∙◌, subst}
use Rattle.pass_plain.specs.Processes.{has_ended}
use Rattle.pass_book.specs.declared.view.Name.{Name}
use Rattle.pass_book.specs.Names.{Agrees}
use Rattle.pass_book.specs.Tokens.{Sighted}
use Rattle.pass_book.proofs.Badges.{past_legal}
use Rattle.pass_book.proofs.Living.{lives}
use Rattle.pass_book.proofs.tokens.Last.meet.Goals as goal

pub returns-clause-legal : goal.returns-clause-legal
returns-clause-legal c = past_legal _ _ _ c.meet.ensures.past

pub returns-clause-lives : goal.returns-clause-lives
returns-clause-lives c =
    let old = c.self.inside.sight in
    let seen = c.meet.new.self.seen in
    let none = sym (subst (λ (a : Name). Agrees a old.seen seen) c.self.invariant.0 c.meet.ensures.met.agrees) ∙ c.self.invariant.1 in
    subst (λ (n : ℕ). has_ended seen n ≡ false) (sym (ap (λ (s : Sighted). s.name.number) c.meet.ensures.same)) (lives seen old.name.number none)
