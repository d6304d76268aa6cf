use Rattle.std.proofs.Common.{◌≤◌, ◌∙◌, length, ap, sym, subst, arith}
use Rattle.pass_book.specs.Records.{entry_lists}
use Rattle.pass_book.specs.Tokens.{BookState}
use Rattle.pass_book.specs.Views.{session_in}
use Rattle.pass_book.proofs.Recording.{lists-length}
use Rattle.pass_book.proofs.Shedding.{length-shed}
use Rattle.pass_book.proofs.book.Book.shed.Goals as goal

pub shed_slips-requires : goal.shed_slips-requires
shed_slips-requires c =
    let session = session_in c.self.inside.seat.me.0.opened in
    let entries = c.self.inside.entries.items in
    let long = ap length c.self.invariant.1.lists ∙ length-shed c.self.inside.kept (entry_lists session entries) ∙ lists-length session entries in
    let within : c.args.upto ≤ length entries = subst (λ (b : BookState). c.args.upto ≤ length b.history) (sym c.self.view_is) c.requires.within in
    omega (arith, long, within)
