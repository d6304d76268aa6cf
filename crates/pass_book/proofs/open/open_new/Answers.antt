use Rattle.std.proofs.Common.{◌≡◌, ◌+◌, [], refl, sym, ap, ◌∙◌, subst, arith}
use Rattle.std.proofs.lemmas.List.{append-nil}
use Rattle.pass_book.specs.Openings.{new_desk, AwayBelow}
use Rattle.pass_book.specs.Tokens.{id_of}
use Rattle.pass_book.specs.Views.{book_view}
use Rattle.pass_book.proofs.open.open_new.Goals as goal
use Rattle.pass_entry.proofs.Places.{range_more}

pub loop-made-init : goal.loop-made-init
loop-made-init c =
    let first = c.args.first in
    let same : first ≡ first + 0 = omega arith in
    (refl, c.requires.empty, subst (AwayBelow c.args.book.now.me.0.away) same c.requires.below, sym (append-nil c.args.desks.now.items))

pub loop-made-preserved : goal.loop-made-preserved
loop-made-preserved c =
    let made = c.loop-made.made in
    let first = c.args.first in
    let k = c.loop-made.invariant in
    let before = c.loop-made.book.me.0 in
    let left = c.in_ok-desk_of_new.ensures.book in
    let opened = ap (λ m. m.0.opened) k.1 in
    let view = left.1 ∙ ap (λ o. (book_view o [] [] c.desk_of_new.new.book.me.0.away [] 0 0, [])) opened in
    let id = ap (λ t. id_of t before) k.0 ∙ ap (λ m. id_of c.args.book.now.table_id m.0) k.1 in
    let desk = c.in_ok-desk_of_new.ensures.desk ∙ ap (λ b. new_desk b (first + made)) id in
    let next : (first + made) + 1 ≡ first + (made + 1) = omega arith in
    let all = range_more (new_desk (id_of c.args.book.now.table_id c.args.book.now.me.0)) first made (first + made) c.args.desks.now.items c.loop-made.desks.items c.push.new.self.items c.in_ok-desk_of_new.field-0
    refl k.3 c.in_ok-push.ensures.items desk in
    (left.0 ∙ k.0, view, subst (AwayBelow c.desk_of_new.new.book.me.0.away) next c.in_ok-desk_of_new.ensures.below, all)
