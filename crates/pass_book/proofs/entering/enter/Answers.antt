use Rattle.std.proofs.Common.{◌≡◌, ◌+◌, List, [], ◌∷◌, length, sym, ap, ◌∙◌, subst, arith, length-append}
use Rattle.pass_entry.specs.declared.entry.Entry.{Entry}
use Rattle.pass_book.specs.declared.view.View.{View}
use Rattle.pass_book.specs.Syncs.{Backs}
use Rattle.pass_book.specs.Tokens.{Sighted, IsPast, view_in}
use Rattle.pass_book.specs.Views.{session_in}
use Rattle.pass_book.proofs.Badges.{past_more, is_held, desk_unlike, line_unlike}
use Rattle.pass_book.proofs.entering.enter.Goals as goal

pub write_down-desk_seat-requires-clause-kept : goal.write_down-desk_seat-requires-clause-kept
write_down-desk_seat-requires-clause-kept c =
    let P : Sighted → Type 0 = λ s. Backs (session_in c.args.book.now.me.0.opened) s.seen (length s.seen) s.syncs c.args.entry.now in
    let mine = subst P (sym c.line.view_is) c.requires.kept in
    let Q : View → Type 0 = λ v. Backs (session_in c.args.book.now.me.0.opened) v.seen (length v.seen) v.syncs c.args.entry.now in
    subst Q (sym (ap (λ m. m.0) c.taken-line_seat.ensures.1)) mine

-- the history with the entry
past : (c : goal.After-tally-1) → IsPast (session_in c.args.book.now.me.0.opened) c.write_down-desk_seat.new.book.me.0.seen c.write_down-desk_seat.new.book.me.0.syncs
past c =
    let w = c.write_down-desk_seat.ensures in
    subst (λ (h : List Entry). IsPast (session_in c.args.book.now.me.0.opened) h c.write_down-desk_seat.new.book.me.0.syncs) (sym w.seen)
    (past_more _ c.args.book.now.me.0.seen c.args.entry.now [] _ c.requires.past w.follows w.syncs.1)

long : (c : goal.After-tally-1) → c.args.place + 1 ≡ length c.write_down-desk_seat.new.book.me.0.seen
long c = omega (arith, c.requires.place.0, ap length c.write_down-desk_seat.ensures.seen, length-append c.args.book.now.me.0.seen (c.args.entry.now ∷ []))

pub invariant_of-desk : goal.invariant_of-desk
invariant_of-desk c =
    let i = c.desk.invariant.0 in
    let w = c.write_down-desk_seat.ensures in
    let whole = c.into_badge.ensures.2 ∙ ap (λ m. m.0 ∷ []) w.desk in
    let table = ap (λ (s : Sighted). s.book.table) c.desk.view_is in
    let same = sym (table ∙ c.requires.one.0) ∙ i.same in
    (is_held _ _ _ _ _ _ _ _ _ whole (c.into_badge.ensures.0 ∙ w.same.0 ∙ same) i.words (desk_unlike c.args.entry.now.what) (past c), long c ∙ sym (ap (λ (vs : List View). length (view_in vs).seen) whole))

pub invariant_of-line : goal.invariant_of-line
invariant_of-line c =
    let i = c.line.invariant.0 in
    let w = c.write_down-desk_seat.ensures in
    let whole = c.into_badge-2.ensures.2 ∙ ap (λ m. m.0 ∷ []) w.line in
    let table = ap (λ (s : Sighted). s.book.table) c.line.view_is in
    let same = sym (table ∙ c.requires.one.1) ∙ i.same in
    (is_held _ _ _ _ _ _ _ _ _ whole (c.into_badge-2.ensures.0 ∙ w.same.1 ∙ same) i.words (line_unlike c.args.entry.now.who) (past c), long c ∙ sym (ap (λ (vs : List View). length (view_in vs).seen) whole))

pub returns-clause-past : goal.returns-clause-past
returns-clause-past c = past c
