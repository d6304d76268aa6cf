use Rattle.std.proofs.Common.{◌≡◌, ap, ◌∙◌, subst, false}
use Rattle.pass_plain.specs.Processes.{has_ended}
use Rattle.pass_book.specs.Tokens.{LastState}
use Rattle.pass_proc.specs.Ends.{LivingView}
use Rattle.pass_proc.proofs.Endings.{living_before}
use Rattle.pass_proc.proofs.ended.Living.meet.Goals as goal

pub returns-clause-lives : goal.returns-clause-lives
returns-clause-lives g c =
    let who = ap (λ (l : LastState). l.what) c.meet.ensures.same ∙ c.self.invariant.1 ∙ ap (λ (l : LivingView). l.who) c.self.view_is in
    subst (λ w. has_ended c.args.note.seen w ≡ false) who
    (living_before c.args.note.seen c.meet.new.self.seen c.meet.new.self.what c.meet.ensures.met.told c.meet.ensures.lives)
