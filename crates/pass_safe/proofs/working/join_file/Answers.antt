use Rattle.std.proofs.Common.{ap, sym, ◌∙◌, subst, List}
use mathlib.Core.List.{IsPrefix}
use Rattle.pass_book.specs.Tokens.{BookState, DeskState, NoteState}
use Rattle.pass_book.specs.Views.{longer}
use Rattle.pass_book.specs.declared.view.VaultSync.{VaultSync}
use Rattle.pass_vault.proofs.Keeping.{longer_self}
use Rattle.pass_vault.specs.Vaulted.{Vaulted}
use Rattle.pass_file.specs.Desks.{FileDeskView}
use Rattle.pass_safe.proofs.working.join_file.Goals as goal

pub returns-clause-vault : goal.returns-clause-vault
returns-clause-vault g c =
    let v = c.args.vault.now in
    let note = ap (λ (n : NoteState). n.seen) c.note-note.ensures.note ∙ ap (λ (s : BookState). s.history) c.show.ensures.shelf ∙ sym c.requires.whole in
    let seen = c.meet.ensures.met.history ∙ ap (longer v.seen) note ∙ longer_self v.seen in
    c.meet.ensures.same ∙ (λ i. record v { seen = seen i })

pub returns-clause-listed : goal.returns-clause-listed
returns-clause-listed g c =
    let back = ap (λ (v : FileDeskView). v.syncs) c.back.ensures ∙ ap (λ (d : DeskState). d.syncs) c.show.ensures.desk in
    let note = ap (λ (n : NoteState). n.syncs) c.note-note.ensures.note in
    let vault = ap (λ (v : Vaulted _). v.syncs) c.meet.ensures.same in
    subst (λ (ss : List VaultSync). IsPrefix ss c.args.vault.now.syncs) (sym back)
    (subst (λ (ss : List VaultSync). IsPrefix ss c.args.vault.now.syncs) note (subst (λ (ss : List VaultSync). IsPrefix c.note-note.result.syncs ss) vault c.meet.ensures.met.told_listed))
