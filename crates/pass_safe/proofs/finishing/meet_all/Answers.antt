use Rattle.std.proofs.Common.{List, ap, subst}
use mathlib.Core.List.{IsPrefix}
use Rattle.pass_entry.specs.declared.entry.Entry.{Entry}
use Rattle.pass_book.specs.Tokens.{NoteState}
use Rattle.pass_book.proofs.Prefixes.{prefix_trans}
use Rattle.pass_safe.proofs.finishing.meet_all.Goals as goal

pub returns-clause-begins : goal.returns-clause-begins
returns-clause-begins g c =
    let met = c.meet.new.self.seen in
    let told = subst (λ (h : List Entry). IsPrefix h met) (ap (λ (n : NoteState). n.seen) c.note-told.ensures.note) c.meet.ensures.told in
    prefix_trans c.args.safe.now.vault.seen met c.args.shelf.now.history told c.see.ensures.begins
