use Rattle.std.proofs.Common.{◌≡◌, arith, ap, ⊎_elim}
use Rattle.pass_book.specs.declared.view.Role.TheVariants.{Book, Vault, Spent}
use Rattle.pass_book.specs.declared.view.Name.{Name}
use Rattle.pass_book.specs.Names.{name}
use Rattle.pass_book.proofs.Splitting.{notes}
use Rattle.pass_book.proofs.steps.note.Goals as goal

pub split_seat-requires : goal.split_seat-requires
split_seat-requires c =
    let v = c.args.seat.now.me.0 in
    let live : ¬ (v.name.role ≡ Spent) = λ e. ⊎_elim (λ (b : v.name ≡ name Book 0). absurd (cc (ap (λ (a : Name). a.role) b, e))) (λ (b : v.name ≡ name Vault 0). absurd (cc (ap (λ (a : Name). a.role) b, e))) c.requires.live in
    (c.requires.same, (let w = c.requires.words in omega arith), notes _ _ _ live)
