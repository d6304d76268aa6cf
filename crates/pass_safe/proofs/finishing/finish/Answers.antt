use Rattle.std.proofs.Common.{◌≡◌, ◌∙◌, ◌<◌, ℕ, false, List, ap, sym, subst}
use Rattle.std.proofs.lemmas.Result.{on_ok_weaker}
use Rattle.pass_entry.specs.Limits.{block_count}
use Rattle.pass_entry.specs.declared.entry.Entry.{Entry}
use Rattle.pass_entry.proofs.Variants.{on_each_ok}
use Rattle.pass_plain.specs.Legal.{IsLegal}
use Rattle.pass_book.specs.Syncs.{IsBacked}
use Rattle.pass_book.specs.Tokens.{BookState, NoteState}
use Rattle.pass_book.specs.declared.view.VaultSync.{VaultSync}
use Rattle.pass_clean.specs.Cleaned.{is_dirty}
use Rattle.pass_vault.specs.Vaulted.{Vaulted}
use Rattle.pass_safe.specs.Grounds.{Ground}
use Rattle.pass_safe.specs.Safes.{IsLost}
use Rattle.pass_safe.specs.declared.fault.Lost.{Lost}
use Rattle.pass_safe.proofs.Leaving.{healthy_after}
use Rattle.pass_safe.proofs.Settles.{settled_all}
use Rattle.pass_safe.proofs.finishing.finish.Goals as goal

pub returns-clause-legal : goal.returns-clause-legal
returns-clause-legal g c =
    subst (λ (h : List Entry). IsLegal g.J.Whose.book.session h) (ap (λ (s : BookState). s.history) (c.note-told.ensures.shelf ∙ c.settle_all-settled.ensures.shelf)) c.into_history.ensures.legal

pub returns-clause-note : goal.returns-clause-note
returns-clause-note g c =
    let noted = c.note-told.ensures.note in
    noted ∙ (λ i. record { book = g.J.Whose.book; seen = (c.settle_all-settled.ensures.shelf i).history; syncs = (sym noted i).syncs })

pub returns-clause-backed : goal.returns-clause-backed
returns-clause-backed g c =
    let S = g.J.Whose.book.session in
    let told = c.note-told in
    let history = ap (λ (s : BookState). s.history) (told.ensures.shelf ∙ c.settle_all-settled.ensures.shelf) in
    let syncs = ap (λ (s : BookState). s.syncs) told.ensures.shelf ∙ sym (ap (λ (n : NoteState). n.syncs) told.ensures.note) in
    subst (λ (ss : List VaultSync). IsBacked S c.args.shelf.history ss) syncs (subst (λ (h : List Entry). IsBacked S h told.new.self.syncs) history c.into_history.ensures.backed)

pub returns-clause-settled : goal.returns-clause-settled
returns-clause-settled g c = λ all.
    let S = g.J.Whose.book.session in
    let h = c.args.shelf.history in
    let w = c.settle_all-settled.new.safe.vault in
    let e = c.settle_all-settled.ensures in
    let legal = subst (λ (h : List Entry). IsLegal S h) (ap (λ (s : BookState). s.history) (c.note-told.ensures.shelf ∙ e.shelf)) c.into_history.ensures.legal in
    let syncs = ap (λ (v : Vaulted _). v.syncs) c.into_vault.ensures.vault in
    on_ok_weaker c.settle_all-settled.result
    (λ clean. subst (λ (ss : List VaultSync). (file block : ℕ) → block < block_count → is_dirty S h ss file block ≡ false) (sym syncs) (settled_all S c.into_history.ensures.sound h legal w.syncs c.args.files.items all clean)) e.clean

pub returns-clause-healthy : goal.returns-clause-healthy
returns-clause-healthy g c =
    let view = g.D.Disk.view in
    let s = c.settle_all-settled in
    on_each_ok s.result ((view c.into_vault.result.disk).faults ≡ g.J.Opening.ground.opened)
    (λ r is. c.into_vault.ensures.healthy (healthy_after view c.args.safe s.new.safe s.result s.ensures.safe r is) ∙ ap (λ (l : Ground). l.opened) c.into_vault.ensures.ground)

pub returns-clause-failed : goal.returns-clause-failed
returns-clause-failed g c = λ opened found is.
    let view = g.D.Disk.view in
    let s = c.settle_all-settled in
    let lost : Lost = record { opened = opened; found = found } in
    let vault = c.into_vault.ensures.vault in
    let first : c.args.safe.vault.opened ≡ g.J.Opening.ground.opened = sym (ap (λ (v : Vaulted _). v.opened) vault ∙ ap (λ (v : Vaulted _). v.opened) s.ensures.vault) ∙ ap (λ (l : Ground). l.opened) c.into_vault.ensures.ground in
    subst (λ (v : Vaulted _). IsLost (view v.disk) g.J.Opening.ground.opened lost) (sym vault)
    (subst (λ (n : ℕ). IsLost (view s.new.safe.vault.disk) n lost) first (s.ensures.safe.failed opened found is))
