use Rattle.std.proofs.Common.{◌≡◌, ◌∙◌, List, ap, subst, sym}
use mathlib.Core.List.{IsPrefix}
use Rattle.pass_entry.specs.declared.entry.Entry.{Entry}
use Rattle.pass_plain.specs.Legal.{IsLegal}
use Rattle.pass_book.proofs.Backed.{still_backed}
use Rattle.pass_book.proofs.Prefixes.{prefix_trans}
use Rattle.pass_book.specs.Syncs.{IsBacked}
use Rattle.pass_book.specs.Tokens.{BookState, NoteState}
use Rattle.pass_book.specs.declared.view.VaultSync.{VaultSync}
use Rattle.pass_vault.specs.Vaulted.{Vaulted}
use Rattle.pass_safe.specs.Grounds.{HasGoneOn, ground_of}
use Rattle.pass_safe.specs.Safes.{SafeView}
use Rattle.pass_store.proofs.Closing.{meets_whole}
use Rattle.pass_store.proofs.settling.unsettled.Goals as goal

pub returns-clause-legal : goal.returns-clause-legal
returns-clause-legal g c = subst (λ (h : List Entry). IsLegal g.J.Whose.book.session h) (sym c.into_history.ensures.entries) c.into_history.ensures.legal

pub returns-clause-whole : goal.returns-clause-whole
returns-clause-whole g c =
    let h = c.args.shelf.history in
    let v = c.into_vault-vault.result in
    let seen : c.see.new.shelf.history ≡ h = ap (λ (s : BookState). s.history) c.see.ensures.shelf in
    let told : c.note-told.result.seen ≡ h = ap (λ (n : NoteState). n.seen) c.note-told.ensures.note ∙ seen in
    let items : c.into_history.result.items ≡ h = c.into_history.ensures.entries ∙ ap (λ (s : BookState). s.history) c.note-told.ensures.shelf ∙ seen in
    let noted : c.note.result.seen ≡ c.args.safe.vault.seen = ap (λ (n : NoteState). n.seen) c.note.ensures.note in
    let kept : v.seen ≡ c.args.safe.vault.seen = ap (λ (v : Vaulted _). v.seen) c.into_vault-vault.ensures.vault ∙ ap (λ (s : SafeView _). s.vault.seen) c.note.ensures.safe in
    let begins : IsPrefix v.seen h = subst (λ (xs : List Entry). IsPrefix xs h) (noted ∙ sym kept) (prefix_trans c.note.result.seen c.meet.new.self.seen h c.meet.ensures.told c.see.ensures.begins) in
    meets_whole v.seen c.meet-2.new.self.seen c.note-told.result.seen h c.meet-2.ensures.met.history told begins ∙ sym items

pub returns-clause-backed : goal.returns-clause-backed
returns-clause-backed g c =
    let S = g.J.Whose.book.session in
    let told = c.note-told in
    let syncs = c.meet-2.new.self.syncs in
    let same = ap (λ (n : NoteState). n.syncs) told.ensures.note ∙ sym (ap (λ (s : BookState). s.syncs) told.ensures.shelf) in
    let listed = subst (λ (ss : List VaultSync). IsPrefix ss syncs) same c.meet-2.ensures.met.told_listed in
    subst (λ (h : List Entry). IsBacked S h syncs) (sym c.into_history.ensures.entries) (still_backed S told.new.self.history told.new.self.syncs syncs listed c.into_history.ensures.backed)

pub returns-clause-ground : goal.returns-clause-ground
returns-clause-ground g c = ap ground_of c.meet-2.ensures.same ∙ c.into_vault-vault.ensures.ground

pub returns-clause-gone_on : goal.returns-clause-gone_on
returns-clause-gone_on g c =
    subst (λ d. HasGoneOn g.J.Opening.tells g.J.Opening.ground.opened (g.D.Disk.view d)) (sym (ap (λ (v : Vaulted _). v.disk) c.meet-2.ensures.same)) c.into_vault-vault.ensures.gone_on
