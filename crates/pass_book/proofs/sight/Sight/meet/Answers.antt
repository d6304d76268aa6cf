use Rattle.std.proofs.Common.{length, sym, ap, ◌∙◌, arith}
use Rattle.pass_book.specs.Views.{met, hearing}
use Rattle.pass_book.specs.Tokens.{BookId, NoteState, Sighted, view_in}
use Rattle.pass_book.proofs.Badges.{IsMetSeat, met_seat, length-longer}
use Rattle.pass_book.proofs.sight.Sight.meet.Goals as goal

-- the badge has its seat again, which has met the note's
again : (c : goal.After-self-1) → IsMetSeat c.into_badge.result.table_id c.self.inside.table.value.shared.table_id (view_in c.self.inside.badge.views) (view_in c.note.inside.badge.views) c.into_badge.result.views
again c =
    let i = c.self.invariant.0 in
    let h = c.hear.ensures.seat in
    let view = ap (λ m. m.0) h.1 ∙ ap (λ m. met (hearing m.0 c.seated.result.me.0)) c.taken-seat.ensures.1 ∙ ap (λ m. met (hearing (view_in c.self.inside.badge.views) m.0)) c.seated.ensures.1 in
    let session = ap (λ (n : NoteState). n.book.session) c.note.view_is ∙ ap (λ (b : BookId). b.session) c.requires ∙ sym (ap (λ (s : Sighted). s.book.session) c.self.view_is) in
    met_seat _ c.self.inside.badge.table_id _ c.self.inside.badge.views c.note.inside.badge.views _ _ c.into_badge.ensures.2 view (c.into_badge.ensures.0 ∙ h.0 ∙ c.taken-seat.ensures.0 ∙ i.same) i c.note.invariant.0 session

pub invariant_of-self : goal.invariant_of-self
invariant_of-self c =
    let v = view_in c.self.inside.badge.views in
    let w = view_in c.note.inside.badge.views in
    let r = again c in
    let long = ap length r.long ∙ length-longer v.seen w.seen in
    (r.seat, omega (arith, long, c.greater-self-inside.ensures, c.self.invariant.1, c.note.invariant.1))

pub returns-clause-past : goal.returns-clause-past
returns-clause-past c = (again c).past
