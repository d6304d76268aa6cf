use Rattle.std.proofs.Common.{◌∙◌, List, ap, subst, sym}
use Rattle.pass_entry.specs.declared.entry.Entry.{Entry}
use Rattle.pass_book.specs.Tokens.{BookState}
use Rattle.pass_store.specs.Closings.{AreByNumber}
use Rattle.pass_store.proofs.settling.numbered_files.Goals as goal

pub add_file-requires : goal.add_file-requires
add_file-requires g c =
    let inv = c.loop-slot.invariant in
    subst (λ (h : List Entry). AreByNumber g.J.Whose.book.session h c.loop-slot.files.items) (sym (c.file_in.ensures.seen ∙ ap (λ (s : BookState). s.history) inv.shelf)) inv.files
