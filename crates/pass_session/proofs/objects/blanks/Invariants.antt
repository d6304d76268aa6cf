use Rattle.std.proofs.Common.{◌≡◌, ◌+◌, ◌++◌, map, drop}
use Rattle.std.specs.List.{range_with_len}
use Rattle.std.specs.Vec.Iter.{into_iter_items, into_iter_len}
use Rattle.pass_book.specs.Openings.{new_desk}
use Rattle.pass_session.proofs.objects.blanks.Given as goal

abbrev pub invariant-loop-more : goal.invariant-loop-more
invariant-loop-more g l = record {
  made : l.made.items ++ drop l.more (range_with_len l.first l.count) ≡ range_with_len l.first l.count;
  desks : into_iter_items l.desks ≡ map (new_desk g.J.Whose.book) (drop l.more (range_with_len l.first l.count));
  left : into_iter_len l.desks + l.more ≡ l.count;
}
