use Rattle.std.proofs.Common.{ℕ, List, [], ◌∷◌, length, sym, ap, ◌∙◌, subst, arith}
use Rattle.pass_entry.specs.declared.entry.Entry.{Entry}
use Rattle.pass_plain.specs.Sessions.{Session}
use Rattle.pass_plain.specs.Legal.{IsLegal}
use Rattle.pass_book.specs.declared.view.Role.TheVariants as role
use Rattle.pass_book.specs.declared.view.Name.{Name}
use Rattle.pass_book.specs.declared.view.View.{View}
use Rattle.pass_book.specs.Names.{name, without}
use Rattle.pass_book.specs.Numbers.{IsFileNumber}
use Rattle.pass_book.specs.Views.{session_in}
use Rattle.pass_book.specs.Tokens.{BookId, DeskState, VaultState, IsVaultPast, view_in}
use Rattle.pass_book.proofs.Backed.{number_stays}
use Rattle.pass_book.proofs.Badges.{past_legal, length-longer, is_held, desk_unlike}
use Rattle.pass_book.proofs.Meetings.{vault_now, without_self}
use Rattle.pass_book.proofs.vault.VaultSeat.noted_file.Goals as goal

-- the desk's history is legal in the vault's session
pub take_desk-requires-clause-legal : goal.take_desk-requires-clause-legal
take_desk-requires-clause-legal c =
    let d = ap (λ m. m.0) c.taken-seat.ensures.1 in
    let theirs = ap (λ l. l.sight.book.session) c.desk-inside.view_is ∙ ap (λ (x : DeskState). x.book.session) c.desk.view_is in
    let session = theirs ∙ ap (λ (b : BookId). b.session) c.requires.one ∙ sym (ap (λ (s : VaultState). s.book.session) c.self.view_is) in
    let legal = subst (λ (x : View). IsLegal (session_in x.opened) x.seen) (sym d) (past_legal _ _ _ c.desk-inside.invariant.0.past) in
    subst (λ (s : Session). IsLegal s c.taken-seat.result.me.0.seen) (ap (λ (x : View). session_in x.opened) d ∙ session) legal

pub note_file-requires-clause-number : goal.note_file-requires-clause-number
note_file-requires-clause-number c =
    let t = c.take_desk.ensures in
    let d = c.taken-seat.result.me.0 in
    let P : Session → List Entry → ℕ → Type 0 = λ s h o. IsFileNumber s h o c.args.number in
    let seen = ap (λ m. m.0.seen) c.taken-seat.ensures.1 ∙ ap (λ l. l.sight.seen) c.desk-inside.view_is ∙ ap (λ (x : DeskState). x.seen) c.desk.view_is in
    let what = ap (λ v. v.me.0.name.number) c.of-old.ensures ∙ ap (λ m. m.0.name.number) c.taken-seat.ensures.1 ∙ ap (λ l. l.sight.name.number) c.desk-inside.view_is ∙ ap (λ (x : DeskState). x.what) c.desk.view_is in
    let session = ap session_in t.same.0 ∙ ap (λ (s : VaultState). s.book.session) c.self.view_is in
    let asked = c.requires.number in
    let mine = subst (λ (s : Session). P s d.seen c.of-old.result.value.me.0.name.number) (sym session)
    (subst (λ (h : List Entry). P c.args.self.now.book.session h c.of-old.result.value.me.0.name.number) (sym seen) (subst (P c.args.self.now.book.session c.args.desk.now.seen) (sym what) asked)) in
    number_stays (session_in c.take_desk.new.vault.me.0.opened) d.seen c.take_desk.new.vault.me.0.seen c.of-old.result.value.me.0.name.number c.args.number t.met.begins mine

pub invariant_of-desk-inside : goal.invariant_of-desk-inside
invariant_of-desk-inside c =
    let i = c.desk-inside.invariant.0 in
    let t = c.take_desk.ensures in
    let v = c.self.inside.seat.me.0 in
    let d = c.taken-seat.result.me.0 in
    let whole = c.into_badge.ensures.2 ∙ ap (λ m. m.0 ∷ []) c.give_desk.ensures.desk.1 in
    let mine = ap (λ l. l.sight.book.table) c.desk-inside.view_is ∙ ap (λ (x : DeskState). x.book.table) c.desk.view_is in
    let theirs = ap (λ t. t.shared.table_id) c.deref.ensures ∙ sym c.self.invariant.0.at.same ∙ ap (λ (s : VaultState). s.book.table) c.self.view_is in
    let table = theirs ∙ sym (ap (λ (b : BookId). b.table) c.requires.one) ∙ sym mine ∙ i.same in
    let long = ap (λ (vs : List View). length (view_in vs).seen) whole ∙ ap (λ m. length m.0.seen) c.note_file.ensures.vault.1 ∙ ap length t.met.history ∙ length-longer d.seen v.seen in
    let len = ap (λ m. length m.0.seen) c.taken-seat.ensures.1 in (
      is_held _ _ _ _ _ _ _ _ _ whole (c.into_badge.ensures.0 ∙ c.give_desk.ensures.desk.0 ∙ c.note_file.ensures.vault.0 ∙ t.at.same ∙ table) i.words (desk_unlike c.of-old.result.value.me.0.name.number) c.note_file.ensures.past.past,
      omega (arith, long, len, c.greater-desk-inside-inside.ensures, c.self.invariant.1, c.desk-inside.invariant.1),
    )

pub invariant_of-self : goal.invariant_of-self
invariant_of-self c =
    let i = c.self.invariant.0 in
    let t = c.take_desk.ensures in
    let g = c.give_desk.ensures.vault in
    let v = c.self.inside.seat.me.0 in
    let d = c.taken-seat.result.me.0 in
    let is = ap (λ m. m.0) g.1 in
    let n = c.of-old.result.value.me.0.name.number in
    let same = ap (λ v. v.me.0.name.number) c.of-old.ensures in
    let had = ap (λ m. m.0.away) c.note_file.ensures.vault.1 ∙ t.away ∙ ap (λ (ns : List Name). name role.Desk d.name.number ∷ ns) i.away ∙ ap (λ k. name role.Desk k ∷ []) (sym same) in
    let away = ap (λ (x : View). x.away) is ∙ ap (without (name role.Desk n)) had ∙ without_self (name role.Desk n) in
    let past = subst (λ (x : View). IsVaultPast (session_in x.opened) x.seen x.syncs) (sym is) c.note_file.ensures.past in
    let long = ap (λ (x : View). length x.seen) is ∙ ap (λ m. length m.0.seen) c.note_file.ensures.vault.1 ∙ ap length t.met.history ∙ length-longer d.seen v.seen in
    let len = ap (λ m. length m.0.seen) c.taken-seat.ensures.1 in (
      vault_now _ _ _ _ _ i (g.0 ∙ c.note_file.ensures.vault.0 ∙ t.at.same ∙ ap (λ t. t.shared.table_id) c.deref.ensures ∙ sym i.at.same) (ap (λ (x : View). x.name) is ∙ ap (λ m. m.0.name) c.note_file.ensures.vault.1 ∙ t.at.named ∙ sym i.at.named) (ap (λ m. m.1) g.1 ∙ ap (λ m. m.1) c.note_file.ensures.vault.1 ∙ t.same.4)
          (ap (λ (x : View). x.told) is ∙ ap (λ m. m.0.told) c.note_file.ensures.vault.1 ∙ t.same.2) (ap (λ (x : View). x.told_syncs) is ∙ ap (λ m. m.0.told_syncs) c.note_file.ensures.vault.1 ∙ t.same.3) away past,
      omega (arith, long, len, c.greater-desk-inside-inside.ensures, c.self.invariant.1, c.desk-inside.invariant.1),
    )
