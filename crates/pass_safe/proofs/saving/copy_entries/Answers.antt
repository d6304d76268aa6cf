use Rattle.std.proofs.Common.{◌≡◌, ap, sym, ◌∙◌, subst, arith, ℕ, List, length}
use mathlib.Core.List.{IsPrefix}
use Rattle.pass_entry.specs.declared.entry.Entry.{Entry}
use Rattle.pass_book.specs.Parting.{lists_of}
use Rattle.pass_book.specs.Records.{AreParts}
use Rattle.pass_book.specs.Syncs.{durable}
use Rattle.pass_book.specs.Tokens.{BookState, NoteState}
use Rattle.pass_safe.specs.Safes.{SafeView}
use Rattle.pass_safe.proofs.saving.copy_entries.Goals as goal

pub returns-clause-copied : goal.returns-clause-copied
returns-clause-copied g c =
    let S = g.J.Whose.book.session in
    let v = c.args.safe.now.vault in
    let seen = c.look_told.new.proc.seen in
    let e = c.in_ok-parts.ensures in
    let parts = lists_of c.in_ok-parts.parts.items in
    let shelf : c.meet_list.new.shelf.history ≡ c.args.shelf.now.history = ap (λ (s : BookState). s.history) c.meet_list.ensures.shelf ∙ ap (λ (s : BookState). s.history) c.look_told.ensures.shelf in
    let here = shelf ∙ sym c.look_told.ensures.whole in
    let from = c.durable-from.ensures.durable ∙ ap (λ (s : SafeView _). durable s.vault.syncs) c.note-told.ensures.safe in
    let few = e.few in
    let same = ap length here in
    record {
      of_book = ap (λ (n : NoteState). n.book) e.note;
      whole = ap (λ (n : NoteState). n.seen) e.note ∙ here;
      begins = subst (λ (h : List Entry). IsPrefix h seen) (ap (λ (n : NoteState). n.seen) c.note-told.ensures.note) c.look_told.ensures.told;
      legal = c.look_told.ensures.looked.legal;
      few = omega (arith, few, same);
      parts = subst (λ (h : List Entry). AreParts S h (durable v.syncs) parts) here (subst (λ (n : ℕ). AreParts S c.meet_list.new.shelf.history n parts) from e.parts);
    }
