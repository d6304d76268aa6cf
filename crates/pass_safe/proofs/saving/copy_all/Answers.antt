use Rattle.std.proofs.Common.{ap, ◌∙◌, subst, arith, ℕ, List, length}
use mathlib.Core.List.{IsPrefix}
use Rattle.pass_entry.specs.declared.entry.Entry.{Entry}
use Rattle.pass_book.specs.Parting.{lists_of}
use Rattle.pass_book.specs.Records.{AreParts}
use Rattle.pass_book.specs.Syncs.{durable}
use Rattle.pass_book.specs.Tokens.{BookState, NoteState}
use Rattle.pass_book.proofs.Prefixes.{prefix_trans}
use Rattle.pass_safe.specs.Safes.{SafeView}
use Rattle.pass_safe.proofs.saving.copy_all.Goals as goal

pub returns-clause-copied : goal.returns-clause-copied
returns-clause-copied g c =
    let S = g.J.Whose.book.session in
    let v = c.args.safe.now.vault in
    let e = c.in_ok-parts.ensures in
    let parts = lists_of c.in_ok-parts.parts.items in
    let shelf = ap (λ (s : BookState). s.history) c.meet_list.ensures.shelf ∙ ap (λ (s : BookState). s.history) c.see.ensures.shelf in
    let from = c.durable-from.ensures.durable ∙ ap (λ (s : SafeView _). durable s.vault.syncs) c.note-told.ensures.safe in
    let few = e.few in
    let same = ap length shelf in
    record {
      of_book = ap (λ (n : NoteState). n.book) e.note;
      whole = ap (λ (n : NoteState). n.seen) e.note ∙ shelf;
      begins = prefix_trans v.seen c.meet.new.self.seen c.args.shelf.now.history (subst (λ (h : List Entry). IsPrefix h c.meet.new.self.seen) (ap (λ (n : NoteState). n.seen) c.note-told.ensures.note) c.meet.ensures.told) c.see.ensures.begins;
      legal = c.see.ensures.legal;
      few = omega (arith, few, same);
      parts = subst (λ (h : List Entry). AreParts S h (durable v.syncs) parts) shelf (subst (λ (n : ℕ). AreParts S c.meet_list.new.shelf.history n parts) from e.parts);
    }
