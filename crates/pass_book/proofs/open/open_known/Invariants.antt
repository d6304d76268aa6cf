use Rattle.std.proofs.Common.{◌≡◌, [], ◌++◌, take, drop}
use Rattle.std.specs.Prelude.{map}
use Rattle.pass_book.specs.Views.{book_view}
use Rattle.pass_book.specs.Tokens.{id_of}
use Rattle.pass_book.specs.Openings.{known_desk, AreApart, AwayApart}
use Rattle.pass_book.proofs.open.open_known.Given as goal

abbrev pub invariant-loop-number : goal.invariant-loop-number
invariant-loop-number l =
    (l.book.table_id ≡ l.initial.book.table_id)
    × (l.book.me ≡ (book_view l.initial.book.me.0.opened [] [] l.book.me.0.away [] 0 0, []))
    × AreApart (drop l.number-index l.numbers) l.initial.book.me.0.opened.start.ceiling
    × AwayApart l.book.me.0.away (drop l.number-index l.numbers) l.initial.book.me.0.opened.start.ceiling
    × (l.desks.items ≡ l.initial.desks.items ++ map (known_desk (id_of l.initial.book.table_id l.initial.book.me.0)) (take l.number-index l.numbers))
