use Rattle.std.proofs.Common.{◌≡◌, length, sym, ap, ◌∙◌, subst, arith}
use Rattle.pass_plain.specs.Sessions.{Session}
use Rattle.pass_plain.specs.Legal.{IsLegal}
use Rattle.pass_book.specs.declared.view.View.{View}
use Rattle.pass_book.specs.Views.{session_in, hearing, met}
use Rattle.pass_book.specs.Tokens.{BookId, NoteState, VaultState, view_in, id_of}
use Rattle.pass_book.proofs.Badges.{past_legal, length-longer}
use Rattle.pass_book.proofs.Meetings.{whole_again, past_grown, vault_now, legal_longer}
use Rattle.pass_book.proofs.vault.VaultSeat.meet.Goals as goal

view : (c : goal.After-self-1) → c.hear.new.seat.me.0 ≡ met (hearing c.self.inside.seat.me.0 (view_in c.note.inside.badge.views))
view c = ap (λ m. m.0) c.hear.ensures.seat.1 ∙ ap (λ m. met (hearing c.self.inside.seat.me.0 m.0)) c.seated.ensures.1

list : (c : goal.After-self-1) → c.hear.new.seat.me.0.syncs ≡ c.self.inside.seat.me.0.syncs
list c = whole_again (hearing c.self.inside.seat.me.0 c.seated.result.me.0) _ c.self.invariant.0.at.named c.hear.ensures.met

pub invariant_of-self : goal.invariant_of-self
invariant_of-self c =
    let i = c.self.invariant.0 in
    let h = c.hear.ensures in
    let v = c.self.inside.seat.me.0 in
    let w = view_in c.note.inside.badge.views in
    let is = view c in
    let seen = ap (λ (x : View). x.seen) is in
    let session = ap (λ (n : NoteState). n.book.session) c.note.view_is ∙ ap (λ (b : BookId). b.session) c.requires ∙ sym (ap (λ (s : VaultState). s.book.session) c.self.view_is) in
    let theirs = subst (λ (s : Session). IsLegal s w.seen) session (past_legal _ _ _ c.note.invariant.0.past) in
    let legal = subst (λ xs. IsLegal (session_in v.opened) xs) (sym seen) (legal_longer (session_in v.opened) v.seen w.seen (past_legal _ _ _ i.past.past) theirs) in
    let past = past_grown v c.hear.new.seat.me.0 i.past (ap (λ (x : View). x.opened) is) h.met.begins legal (list c) in
    let long = ap length seen ∙ length-longer v.seen w.seen in (
      vault_now _ _ _ _ _ i h.seat.0 (ap (λ (x : View). x.name) is) (ap (λ m. m.1) h.seat.1) (ap (λ (x : View). x.told) is) (ap (λ (x : View). x.told_syncs) is) (ap (λ (x : View). x.away) is ∙ i.away) past,
      omega (arith, long, c.greater-self-inside.ensures, c.self.invariant.1, c.note.invariant.1),
    )

pub returns-clause-same : goal.returns-clause-same
returns-clause-same c =
    let e = list c ∙ ap (λ (v : VaultState). v.syncs) c.self.view_is in
    let b = ap (λ (x : View). id_of c.hear.new.seat.table_id x) (view c) ∙ ap (λ t. id_of t c.self.inside.seat.me.0) c.hear.ensures.seat.0 ∙ ap (λ (v : VaultState). v.book) c.self.view_is in
    λ k. record { book = b k; seen = c.hear.new.seat.me.0.seen; syncs = e k }
