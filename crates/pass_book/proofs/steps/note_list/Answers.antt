use Rattle.std.proofs.Common.{◌≡◌, arith, ap}
use Rattle.pass_book.specs.declared.view.Role.TheVariants.{Spent}
use Rattle.pass_book.specs.declared.view.Name.{Name}
use Rattle.pass_book.proofs.Splitting.{notes_list}
use Rattle.pass_book.proofs.steps.note_list.Goals as goal

pub split_seat-requires : goal.split_seat-requires
split_seat-requires c =
    let at = c.requires.at in
    let live : ¬ (c.args.book.now.me.0.name.role ≡ Spent) = λ e. absurd (cc (ap (λ (a : Name). a.role) at.named, e)) in
    (at.same, (let w = at.words in omega arith), notes_list _ _ _ live)
