use Rattle.std.proofs.Common.{List, sym, subst}
use Rattle.pass_entry.specs.declared.entry.Entry.{Entry}
use Rattle.pass_plain.specs.Legal.{IsLegal}
use Rattle.pass_safe.proofs.Lent.{flushed_done, flushed_receipt, some_flushed}
use Rattle.pass_safe.proofs.saving.flush_copied.Goals as goal

pub flush-requires-clause-legal : goal.flush-requires-clause-legal
flush-requires-clause-legal g c = subst (λ (h : List Entry). IsLegal g.J.Whose.book.session h) (sym c.requires.copied.1.whole) c.requires.copied.1.legal

pub receipt-requires : goal.receipt-requires
receipt-requires g c = some_flushed c.args.safe.now.vault c.flush.new.self.vault c.args.copied.note.seen (g.D.Disk.view c.flush.new.self.vault.disk).calls c.in-Ok.ensures.done

pub returns-in-Ok-clause-done : goal.returns-in-Ok-clause-done
returns-in-Ok-clause-done g c =
    let v = c.args.safe.now.vault in
    let w = c.flush.new.self.vault in
    flushed_done v w c.args.copied.note.seen (g.D.Disk.view w.disk).calls c.in-Ok.ensures.done c.receipt.result c.receipt.ensures

pub returns-in-Ok-clause-receipt : goal.returns-in-Ok-clause-receipt
returns-in-Ok-clause-receipt g c =
    let v = c.args.safe.now.vault in
    let w = c.flush.new.self.vault in
    flushed_receipt v w c.args.copied.note.seen (g.D.Disk.view w.disk).calls c.in-Ok.ensures.done c.receipt.result c.receipt.ensures
