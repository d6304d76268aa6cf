use Rattle.std.proofs.Common.{◌≡◌, length, false, sym, subst, arith}
use Rattle.pass_entry.specs.declared.entry.Entry.{Entry}
use Rattle.pass_plain.specs.Legal.{MayFollow}
use Rattle.pass_book.specs.declared.view.Name.{Name}
use Rattle.pass_book.specs.Names.{Among, touches}
use Rattle.pass_book.specs.Syncs.{Backs}
use Rattle.pass_book.specs.Views.{session_in}
use Rattle.pass_book.proofs.Splitting.{writes}
use Rattle.pass_book.proofs.steps.write.Goals as goal

pub split_seat-requires : goal.split_seat-requires
split_seat-requires g c =
    let at = c.requires.at in
    let b = c.args.book.now.me.0 in
    let P : Entry → Type 0 = λ e. ((a : Name) → Among a b.away → touches a e ≡ false) × MayFollow (session_in b.opened) b.seen e × Backs (session_in b.opened) b.seen (length b.seen) b.syncs e in
    let all = subst P (sym c.requires.entry) (c.requires.free, c.requires.may, c.requires.kept) in
    (at.same, (let w = at.words in omega arith), writes _ _ _ _ at.named all.0 all.1 all.2 c.requires.place)
