use Rattle.std.proofs.Common.{◌≡◌, ap, ◌∙◌, subst, length, List}
use Rattle.pass_entry.specs.declared.entry.Entry.{Entry}
use Rattle.pass_vault.specs.declared.vault.Receipt.{Receipt}
use Rattle.pass_safe.specs.Commits.{flushed_to}
use Rattle.pass_safe.proofs.Lent.{entries_saved}
use Rattle.pass_safe.proofs.saving.commit_entries.Goals as goal

pub returns-in-Ok-clause-saved : goal.returns-in-Ok-clause-saved
returns-in-Ok-clause-saved g c =
    let v = c.args.safe.now.vault in
    let w = c.flush_copied.new.safe.vault in
    let h = c.args.proc.now.seen in
    let done : w ≡ flushed_to v w h c.in-Ok.receipt.calls = subst (λ (h : List Entry). w ≡ flushed_to v w h c.in-Ok.receipt.calls) c.requires.copied.whole c.in-Ok.ensures.done in
    let all = ap (λ (r : Receipt). r.entries) c.in-Ok.ensures.receipt ∙ ap length c.requires.copied.whole in
    entries_saved g.J.Whose.book v w h c.in-Ok.receipt c.note-told.result c.durable-durable.ensures.sound done all c.note-told.ensures.note
