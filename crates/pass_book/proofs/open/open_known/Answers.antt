use Rattle.std.proofs.Common.{◌+◌, List, [], drop, sym, ap, ◌∙◌, subst}
use Rattle.std.proofs.lemmas.List.{drop_all}
use Rattle.pass_book.specs.declared.view.Name.{Name}
use Rattle.pass_book.specs.Openings.{known_desk, AreApart, AwayApart}
use Rattle.pass_book.specs.Tokens.{id_of}
use Rattle.pass_book.specs.Views.{book_view}
use Rattle.pass_book.proofs.Opened.{apart_free, apart_more, known_more}
use Rattle.pass_book.proofs.open.open_known.Goals as goal
use Rattle.pass_entry.proofs.Places.{drop_known}

pub desk_alone-requires-clause-free : goal.desk_alone-requires-clause-free
desk_alone-requires-clause-free c =
    let i = c.loop-number.number-index in
    let rest = drop (i + 1) c.args.numbers.now in
    let last = c.args.book.now.me.0.opened.start.ceiling in
    let next = drop_known c.args.numbers.now i c.number-item.result c.loop-number-test.true c.number-item.is in
    apart_free c.number-item.result rest c.loop-number.book.me.0.away last (subst (λ ns. AwayApart c.loop-number.book.me.0.away ns last) next c.loop-number.invariant.3)

pub loop-number-preserved : goal.loop-number-preserved
loop-number-preserved c =
    let i = c.loop-number.number-index in
    let n = c.number-item.result in
    let numbers = c.args.numbers.now in
    let rest = drop (i + 1) numbers in
    let last = c.args.book.now.me.0.opened.start.ceiling in
    let k = c.loop-number.invariant in
    let before = c.loop-number.book.me.0 in
    let next = drop_known numbers i n c.loop-number-test.true c.number-item.is in
    let apart = subst (λ ns. AreApart ns last) next k.2 in
    let away = subst (λ ns. AwayApart before.away ns last) next k.3 in
    let left = c.in_ok-desk_alone.ensures.book in
    let more = apart_more n rest before.away last apart away in
    let gone = ap (λ m. m.0.away) left.1 in
    let opened = ap (λ m. m.0.opened) k.1 in
    let view = left.1 ∙ ap (λ (ns : List Name). (book_view before.opened [] [] ns [] 0 0, [])) (sym gone) ∙ ap (λ o. (book_view o [] [] c.desk_alone.new.book.me.0.away [] 0 0, [])) opened in
    let id = ap (λ t. id_of t before) k.0 ∙ ap (λ m. id_of c.args.book.now.table_id m.0) k.1 in
    let desk = c.in_ok-desk_alone.ensures.desk ∙ ap (λ b. known_desk b n) id in
    let all = known_more (known_desk (id_of c.args.book.now.table_id c.args.book.now.me.0)) numbers i n c.args.desks.now.items c.loop-number.desks.items c.push.new.self.items c.in_ok-desk_alone.field-0
    c.loop-number-test.true c.number-item.is k.4 c.in_ok-push.ensures.items desk in
    (left.0 ∙ k.0, view, apart.3, subst (λ (ns : List Name). AwayApart ns rest last) (sym gone) more, all)

pub returns-clause-away : goal.returns-clause-away
returns-clause-away c =
    let numbers = c.args.numbers.now in
    let none = drop_all c.loop-number.number-index numbers c.loop-number-test.false in
    subst (λ ns. AwayApart c.loop-number.book.me.0.away ns c.args.book.now.me.0.opened.start.ceiling) none c.loop-number.invariant.3
