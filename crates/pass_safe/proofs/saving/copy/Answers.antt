use Rattle.std.proofs.Common.{ap, sym, ◌∙◌, subst, arith, ℕ, List, length}
use mathlib.Core.List.{IsPrefix}
use Rattle.pass_entry.specs.declared.entry.Entry.{Entry}
use Rattle.pass_plain.specs.Legal.{IsLegal}
use Rattle.pass_book.specs.Parting.{lists_of}
use Rattle.pass_book.specs.Records.{AreParts}
use Rattle.pass_book.specs.Syncs.{durable}
use Rattle.pass_book.specs.Tokens.{BookState, NoteState}
use Rattle.pass_file.specs.Desks.{FileDeskView}
use Rattle.pass_safe.specs.Safes.{SafeView}
use Rattle.pass_safe.proofs.saving.copy.Goals as goal

pub returns-clause-copied : goal.returns-clause-copied
returns-clause-copied g c =
    let S = g.J.Whose.book.session in
    let v = c.args.safe.now.vault in
    let e = c.in_ok-parts.ensures in
    let parts = lists_of c.in_ok-parts.parts.items in
    let seen = ap (λ (f : FileDeskView). f.seen) c.see.ensures.state in
    let shelf = ap (λ (s : BookState). s.history) c.meet_list.ensures.shelf ∙ ap (λ (s : BookState). s.history) c.see.ensures.shelf in
    let from = c.durable-from.ensures.durable ∙ ap (λ (s : SafeView _). durable s.vault.syncs) c.note-told.ensures.safe in
    let few = c.see.ensures.few in
    let same = ap length seen in
    record {
      of_book = ap (λ (n : NoteState). n.book) e.note;
      whole = ap (λ (n : NoteState). n.seen) e.note ∙ shelf ∙ sym seen;
      begins = subst (λ (h : List Entry). IsPrefix v.seen h) (sym seen) (subst (λ (h : List Entry). IsPrefix h c.args.shelf.now.history) (ap (λ (n : NoteState). n.seen) c.note-told.ensures.note) c.see.ensures.told.0);
      legal = subst (λ (h : List Entry). IsLegal S h) (sym seen) c.see.ensures.legal;
      few = omega (arith, few, same);
      parts = subst (λ (h : List Entry). AreParts S h (durable v.syncs) parts) (shelf ∙ sym seen) (subst (λ (n : ℕ). AreParts S c.meet_list.new.shelf.history n parts) from e.parts);
    }
