use Rattle.std.proofs.Common.{◌≡◌, ◌+◌, [], ◌++◌}
use Rattle.std.specs.Prelude.{map}
use Rattle.std.specs.List.{range_with_len}
use Rattle.pass_book.specs.Views.{book_view}
use Rattle.pass_book.specs.Tokens.{id_of}
use Rattle.pass_book.specs.Openings.{new_desk, AwayBelow}
use Rattle.pass_book.proofs.open.open_new.Given as goal

abbrev pub invariant-loop-made : goal.invariant-loop-made
invariant-loop-made l =
    (l.book.table_id ≡ l.initial.book.table_id)
    × (l.book.me ≡ (book_view l.initial.book.me.0.opened [] [] l.book.me.0.away [] 0 0, []))
    × AwayBelow l.book.me.0.away (l.fn.first + l.made)
    × (l.desks.items ≡ l.initial.desks.items ++ map (new_desk (id_of l.initial.book.table_id l.initial.book.me.0)) (range_with_len l.fn.first l.made))
