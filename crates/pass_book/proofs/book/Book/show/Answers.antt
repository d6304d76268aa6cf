use Rattle.std.proofs.Common.{rules, [], ◌≡◌, List, ◌∷◌, length, sym, ap, ◌∙◌, subst}
use Rattle.pass_entry.specs.declared.entry.Entry.{Entry}
use Rattle.pass_plain.specs.Legal.{IsLegal}
use Rattle.pass_book.specs.declared.view.Opened.{Opened}
use Rattle.pass_book.specs.declared.view.Role.TheVariants as role
use Rattle.pass_book.specs.declared.view.View.{View}
use Rattle.atomic_table.specs.Seated.{TableId}
use Rattle.pass_book.specs.Names.{name}
use Rattle.pass_book.specs.Shedding.{AreKept}
use Rattle.pass_book.specs.Tokens.{At, BookId, BookState, DeskState, IsPast, view_in}
use Rattle.pass_book.specs.Views.{session_in}
use Rattle.pass_book.proofs.Badges.{past_legal, past_listed, is_held, unlike_of}
use Rattle.pass_book.proofs.Shedding.{kept_later}
use Rattle.pass_book.proofs.book.Book.show.Goals as goal

-- the history, with the list that the book has now
past : (c : goal.After-desk-1) → IsPast (session_in c.self.inside.seat.me.0.opened) c.self.inside.entries.items c.show.new.book.me.0.syncs
past c = past_listed _ _ _ _ c.self.invariant.0.past c.show.ensures.syncs.1

pub invariant_of-desk-inside : goal.invariant_of-desk-inside
invariant_of-desk-inside c =
    let i = c.desk-inside.invariant.0 in
    let o = c.self.invariant.0 in
    let whole = c.into_badge.ensures.2 ∙ ap (λ m. m.0 ∷ []) c.show.ensures.desk in
    let seen : c.show.new.book.me.0.seen ≡ c.self.inside.entries.items = c.show.ensures.seen.0 ∙ o.seen in
    let now = subst (λ (h : List Entry). IsPast (session_in c.self.inside.seat.me.0.opened) h c.show.new.book.me.0.syncs) (sym seen) (past c) in
    let view : c.taken-seat.result.me.0 ≡ _ = ap (λ m. m.0) c.taken-seat.ensures.1 in
    let mine = ap (λ t. t.shared.table_id) c.deref.ensures ∙ sym o.at.same ∙ ap (λ (b : BookState). b.book.table) c.self.view_is in
    let theirs = ap (λ l. l.sight.book.table) c.desk-inside.view_is ∙ ap (λ (l : DeskState). l.book.table) c.desk.view_is in
    let table = mine ∙ sym (ap (λ (b : BookId). b.table) c.requires) ∙ sym theirs ∙ i.same in
    let count : c.len.result ≡ length c.self.inside.entries.items = search rules in
    let len = count ∙ ap length (sym seen) ∙ sym (ap (λ (vs : List View). length (view_in vs).seen) whole) in
    (is_held _ _ _ _ _ _ _ _ _ whole (c.into_badge.ensures.0 ∙ c.show.ensures.same ∙ table) i.words (unlike_of _ _ view i.unlike) now, len)

pub invariant_of-self : goal.invariant_of-self
invariant_of-self c =
    let o = c.self.invariant.0 in
    let l = c.show.ensures in
    let opened = l.seen.1 in
    let here : TableId → Type 0 = λ t. At (name role.Book 0) t c.show.new.book.table_id c.show.new.book.me.0 in
    let at = subst here (ap (λ t. t.shared.table_id) c.deref.ensures) l.at in
    let now = subst (λ (o : Opened). IsPast (session_in o) c.self.inside.entries.items c.show.new.book.me.0.syncs) (sym opened) (past c) in
    let later = kept_later _ _ _ _ _ _ c.self.invariant.1 l.syncs.0 l.syncs.1 in
    let records = subst (λ (o : Opened). AreKept (session_in o) c.self.inside.entries.items c.show.new.book.me.0.syncs c.self.inside.kept c.self.inside.slips.items) (sym opened) later in (
      record { at = at; seen = l.seen.0 ∙ o.seen; claimed = l.claimed.0; pool = l.claimed.1 ∙ o.pool; empty = l.seen.2 ∙ o.empty; past = now },
      records,
      c.self.invariant.2,
      c.self.invariant.3,
      c.self.invariant.4,
    )

pub returns-clause-legal : goal.returns-clause-legal
returns-clause-legal c = subst (λ (b : BookState). IsLegal b.book.session b.history) c.self.view_is (past_legal _ _ _ c.self.invariant.0.past)
