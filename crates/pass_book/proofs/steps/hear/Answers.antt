use Rattle.std.proofs.Common.{sym, ap, ◌∙◌, arith}
use Rattle.pass_book.proofs.Joining.{hears}
use Rattle.pass_book.proofs.Loading.{takes}
use Rattle.pass_book.proofs.Badges.{note_unlike}
use Rattle.pass_book.proofs.steps.hear.Goals as goal

pub join_seat-requires : goal.join_seat-requires
join_seat-requires c =
    let same = c.requires.same in
    (same.0, same.1, c.requires.note.1, (let w = c.requires.words in omega arith), hears _ _ _ _ _ c.requires.unlike (λ e. note_unlike (sym c.requires.note.0 ∙ e)) c.requires.quiet)

pub load-requires : goal.load-requires
load-requires c =
    let j = c.join_seat.ensures in
    (j.0 ∙ c.requires.same.0, (let w = c.requires.words in omega arith), takes _ _ _ _ (λ e. c.requires.unlike (sym (ap (λ m. m.0.name) j.2) ∙ e)))
